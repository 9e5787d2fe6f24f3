-- The count that guards an attempt stays in force until the attempt enters or fails, since the maker holds the lock meanwhile.
use Rattle.std.proofs.Common.{◌≡◌, ◌≤◌, ◌∙◌, ℕ, Bool, true, false, ◌==◌, ◌||◌, nat_lt, List, [], ◌∷◌, length, Option, Some, None, refl, sym, subst, cond}
use Rattle.std.proofs.lemmas.Bool.{eqb-true}
use Rattle.sleep_base.specs.declared.errno.Errno.{Errno}
use Rattle.sleep_base.specs.declared.errno.Errno.TheVariants.{EBUSY}
use Rattle.phase_table.specs.declared.phase.Phase.{Phase}
use Rattle.phase_table.specs.Phases.{is_down}
use Rattle.sleep_model.specs.declared.entry.Actor.{Actor}
use Rattle.sleep_model.specs.declared.entry.Entry.{Entry}
use Rattle.sleep_model.specs.declared.entry.Kind.{Kind}
use Rattle.sleep_model.specs.declared.machine.Machine.{Machine}
use Rattle.sleep_model.specs.declared.machine.Op.{Op}
use Rattle.sleep_model.specs.declared.progress.ScriptPosition.{ScriptPosition}
use Rattle.sleep_model.specs.declared.progress.Stage.{Stage}
use Rattle.sleep_model.specs.declared.progress.Stage.TheVariants as stage
use Rattle.sleep_model.specs.declared.progress.PhaseState.TheVariants as state
use Rattle.sleep_model.specs.declared.word.EventNow.{EventNow}
use Rattle.sleep_model.specs.declared.progress.Work.{Work}
use Rattle.sleep_model.specs.Devices.{phase_failed, phase_failed_after, error_in, state_in}
use Rattle.sleep_model.specs.Guard.{Finds, in_force, count_effect, count_pending, force_after, forgotten}
use Rattle.sleep_model.specs.Laws.{GuardedSleep, guard_of, guard_after}
use Rattle.sleep_model.specs.Legal.{IsLegal, JournalPart}
use Rattle.sleep_model.specs.EntryClasses.{journal}
use Rattle.sleep_model.specs.Lock.{holder}
use Rattle.sleep_model.specs.Path.{maker}
use Rattle.sleep_model.specs.Table.{stage_of, stage_after}
use Rattle.sleep_model.specs.Word.{visible}
use Rattle.sleep_laws.proofs.DeviceLaws.{scheduled_stage}
use Rattle.sleep_laws.proofs.Few.{few_registered}
use Rattle.sleep_laws.proofs.Guarding.{Shows, Says, AllSay, guarded_of}
use Rattle.sleep_laws.proofs.LockHolding.{HolderOf, StageMaker, lock_agrees as lock}
use Rattle.sleep_laws.proofs.Made.{Down, Made, Comes, AtOnce, PastNotifiers, PastCpus, PastParts, PastPartsUp, PastCpusUp, PastPosts, StepMade, TaskMade, WorkMade, DeviceMade, EntryMade, ByMaker, ByTask, ByWork, ByDevice, ByTime}
use Rattle.sleep_laws.proofs.Telling.{some≢none}
use Rattle.sleep_laws.proofs.MakingOwn.{by_maker, entry_made}

-- until the attempt enters or fails its guard is in force; in a phase on the way down as long as the phase has no error
abbrev pub InForceAt : Stage → Option Errno → Option ℕ → Option ℕ → Type 0
InForceAt stage.Notifies error guard force = force ≡ guard
InForceAt (stage.Freezes g) error guard force = force ≡ guard
InForceAt (stage.PlatformDo step) error guard force = force ≡ guard
InForceAt stage.Prepares error guard force = force ≡ guard
InForceAt (stage.Downs p) error guard force = error ≡ None → force ≡ guard
InForceAt stage.StopsCpus error guard force = force ≡ guard
InForceAt stage.StopsIrqs error guard force = force ≡ guard
InForceAt stage.ChecksWakeup error guard force = force ≡ guard
InForceAt stage.StopsSyscore error guard force = force ≡ guard
InForceAt stage.Enters error guard force = force ≡ guard
InForceAt _ error guard force = Unit {0}

abbrev pub InForceIf : Option Stage → Option Errno → Option ℕ → Option ℕ → Type 0
InForceIf None error guard force = Unit {0}
InForceIf (Some s) error guard force = InForceAt s error guard force

in_force_comes : (m : Machine) (past : List Entry) (here there : Stage) (error : Option Errno) (guard force : Option ℕ) → Comes m past here there → InForceAt here error guard force → InForceAt there error guard force
in_force_comes m past _ _ error guard force (AtOnce s) h = h
in_force_comes m past _ _ error guard force (PastNotifiers e) h = h
in_force_comes m past _ _ error guard force (PastCpus e) h = h
in_force_comes m past _ _ error guard force (PastParts e) h = h
in_force_comes m past _ _ error guard force (PastPartsUp e) h = tt
in_force_comes m past _ _ error guard force (PastCpusUp e) h = tt
in_force_comes m past _ _ error guard force (PastPosts e) h = tt

-- an entry leaves no error only if none stood
no_error_in : (p : Phase) (r before : Option Errno) → error_in p r before ≡ None → before ≡ None
no_error_in p None before e = e
no_error_in p (Some x) before e = by_test (is_down p) e
  where
    by_test : (b : Bool) → cond b (Some x) before ≡ None → before ≡ None
    by_test true f = absurd (some≢none x f)
    by_test false f = f

-- what is in force after an entry
abbrev InForceAfter : List Entry → EventNow → Kind → Option Stage → Type 0
InForceAfter past now k before = InForceIf (stage_after k before) (phase_failed_after k (phase_failed past)) (guard_after k (guard_of past)) (force_after (count_effect k) now (in_force past))

in_force_made : (m : Machine) (past : List Entry) (now : EventNow) (there : Stage) (k : Kind) → InForceAt there (phase_failed past) (guard_of past) (in_force past) → Made m past now there k → InForceAfter past now k (Some there)
in_force_made m past now _ _ h (Made.NotifyFails x r n) = tt
in_force_made m past now _ _ h (Made.UserTimesOut since n x f) = tt
in_force_made m past now _ _ h (Made.KernelTimesOut since n x f) = tt
in_force_made m past now _ _ h (Made.UserWakes since n x f w) = tt
in_force_made m past now _ _ h (Made.KernelWakes since n x f w) = tt
in_force_made m past now _ _ h (Made.BeginFails r) = tt
in_force_made m past now _ _ h (Made.PrepareFails r) = tt
in_force_made m past now _ _ h (Made.PrepareLateFails r) = tt
in_force_made m past now _ _ h (Made.PreparesNot r f) = tt
in_force_made m past now _ _ h (Made.Prepares d r f n) = h
in_force_made m past now _ _ h (Made.Prepared f n) = λ e. h
in_force_made m past now _ _ h (Made.EndsDown p q d r down c) = λ e. h (no_error_in p r (phase_failed past) e)
in_force_made m past now _ _ h (Made.FindsDown p d down at t w) = λ e. absurd (some≢none EBUSY e)
in_force_made m past now _ _ h (Made.SuspendFails r b) = tt
in_force_made m past now _ _ h (Made.LateFails r b) = tt
in_force_made m past now _ _ h (Made.NoirqFails r b) = tt
in_force_made m past now _ _ h (Made.SuspendEnds b) = h b.well
in_force_made m past now _ _ h (Made.LateEnds b) = λ e. h b.well
in_force_made m past now _ _ h (Made.NoirqEnds b) = h b.well
in_force_made m past now _ _ h (Made.PlatformPrepares) = λ e. h
in_force_made m past now _ _ h (Made.FindsCpu k n w) = tt
in_force_made m past now _ _ h (Made.FindsCheck w) = tt
in_force_made m past now _ _ h (Made.PartFails x r n) = tt
in_force_made m past now _ _ h (Made.EntersNot s w) = tt
in_force_made m past now _ _ h (Made.Wakes s e f) = tt
in_force_made m past now _ _ h (Made.StartsPart x n) = tt
in_force_made m past now _ _ h Made.StartsIrqs = tt
in_force_made m past now _ _ h (Made.StartsCpu k n) = tt
in_force_made m past now _ _ h Made.PlatformWakes = tt
in_force_made m past now _ _ h Made.PlatformFinishes = tt
in_force_made m past now _ _ h Made.PlatformRecovers = tt
in_force_made m past now _ _ h Made.PlatformEnds = tt
in_force_made m past now _ _ h (Made.EndsUp p q d r up c) = tt
in_force_made m past now _ _ h (Made.SchedulesUp p d up c n) = tt
in_force_made m past now _ _ h (Made.BeginsUp p d up c g n w) = tt
in_force_made m past now _ _ h (Made.ResumeNoirqEnds r) = tt
in_force_made m past now _ _ h (Made.EarlyEnds r) = tt
in_force_made m past now _ _ h (Made.ResumeEnds r) = tt
in_force_made m past now _ _ h (Made.Completes d n) = tt
in_force_made m past now _ _ h (Made.Completed n) = tt
in_force_made m past now _ _ h Made.Clears = tt
in_force_made m past now _ _ h Made.ThawsKernel = tt
in_force_made m past now _ _ h Made.ThawsAll = tt
in_force_made m past now _ _ h (Made.Posts x n) = tt
in_force_made m past now _ _ h Made.Ends = tt
in_force_made m past now _ _ h _ = h

-- ---- the guard after an entry

-- an entry that leaves the count in force, and no error if there was none
in_force_less : (st : Option Stage) (e f : Option Errno) (guard force : Option ℕ) → (f ≡ None → e ≡ None) → InForceIf st e guard force → InForceIf st f guard force
in_force_less None e f guard force l h = tt
in_force_less (Some (stage.Downs p)) e f guard force l h = λ x. h (l x)
in_force_less (Some stage.Notifies) e f guard force l h = h
in_force_less (Some _) e f guard force l h = h

-- the guard after an entry that leaves the stage as it was
abbrev GuardedAfter : List Entry → EventNow → Kind → Type 0
GuardedAfter past now k = InForceAfter past now k (stage_of past)

-- if nobody holds the lock no attempt is open
free_stage : (o h : Option Actor) (s : Option Stage) → HolderOf o h → StageMaker o s → h ≡ None → s ≡ None
free_stage None h None l t e = refl
free_stage None h (Some s) l t e = absurd t
free_stage (Some x) h s l t e = absurd (some≢none x (sym l ∙ e))

unheld : (m : Machine) (past : List Entry) → JournalPart m past → holder past ≡ None → (error : Option Errno) (guard force : Option ℕ) → InForceIf (stage_of past) error guard force
unheld m past h free error guard force =
    let l = lock m past h in
    let none : stage_of past ≡ None = free_stage (maker past) (holder past) (stage_of past) l.0 l.2 free in
    subst (λ (x : Option Stage). InForceIf x error guard force) (sym none) tt

step_guards : (m : Machine) (past : List Entry) (now : EventNow) (position : ScriptPosition) (asked : Bool) (o : Option Op) (k : Kind) → JournalPart m past → InForceIf (stage_of past) (phase_failed past) (guard_of past) (in_force past) → StepMade m past now position asked o k → GuardedAfter past now k
step_guards m past now position asked _ _ l h (StepMade.Saves c count free on s q) = unheld m past l free _ _ _
step_guards m past now position asked _ _ l h (StepMade.SavesNot c count free on s) = unheld m past l free _ _ _
step_guards m past now position asked _ _ l h (StepMade.Attempts text s free on) = refl
step_guards m past now position asked _ _ l h _ = h

work_guards : (m : Machine) (past : List Entry) (now : EventNow) (w : Work) (k : Kind) → JournalPart m past → InForceIf (stage_of past) (phase_failed past) (guard_of past) (in_force past) → WorkMade m past now w k → GuardedAfter past now k
work_guards m past now _ _ l h (WorkMade.Saves c free s q) = unheld m past l free _ _ _
work_guards m past now _ _ l h (WorkMade.SavesNot c free s) = unheld m past l free _ _ _
work_guards m past now _ _ l h (WorkMade.Attempts c on) = refl
work_guards m past now _ _ l h _ = h

-- a device finds a wakeup only in a phase on the way down
device_guards : (m : Machine) (past : List Entry) (now : EventNow) (d : ℕ) (k : Kind) → ((p : Phase) → Down p → state_in m past p d ≡ state.Scheduled → stage_of past ≡ Some (stage.Downs p)) → InForceIf (stage_of past) (phase_failed past) (guard_of past) (in_force past) → DeviceMade m past now d k → GuardedAfter past now k
device_guards m past now d _ going h (DeviceMade.OwnFinds p down g f t w) =
    subst (λ (x : Option Stage). InForceIf x (Some EBUSY) (guard_of past) (force_after Finds now (in_force past))) (sym (going p down g.states)) (λ e. absurd (some≢none EBUSY e))
device_guards m past now d _ going h (DeviceMade.OwnEnds p r down a w s) = in_force_less (stage_of past) (phase_failed past) (error_in p r (phase_failed past)) (guard_of past) (in_force past) (no_error_in p r (phase_failed past)) h
device_guards m past now d _ going h (DeviceMade.OwnRose p r up a w s) = in_force_less (stage_of past) (phase_failed past) (error_in p r (phase_failed past)) (guard_of past) (in_force past) (no_error_in p r (phase_failed past)) h
device_guards m past now d _ going h _ = h

maker_guards : (m : Machine) (past : List Entry) (now : EventNow) (here there : Stage) (k : Kind) → InForceIf (stage_of past) (phase_failed past) (guard_of past) (in_force past) → stage_of past ≡ Some here → Comes m past here there → Made m past now there k → GuardedAfter past now k
maker_guards m past now here there k h at come x =
    by_maker m past now k here there
    (λ (s : Option Stage). InForceIf s (phase_failed past) (guard_of past) (in_force past))
    (λ (s : Option Stage). InForceIf s (phase_failed_after k (phase_failed past)) (guard_after k (guard_of past)) (force_after (count_effect k) now (in_force past)))
    at come x (in_force_comes m past here there (phase_failed past) (guard_of past) (in_force past) come) (λ b. in_force_made m past now there k b x) h

-- ---- so at each point

entry_guards : (m : Machine) (past : List Entry) (now : EventNow) (who : Actor) (k : Kind) → JournalPart m past → InForceIf (stage_of past) (phase_failed past) (guard_of past) (in_force past) → EntryMade m past now who k → GuardedAfter past now k
entry_guards m past now who k l h (ByMaker _ here there _ own at come x) = maker_guards m past now here there k h at come x
entry_guards m past now _ k l h (ByTask i _ other (TaskMade.Freezes s go asked)) = h
entry_guards m past now _ _ l h (ByTask i _ other (TaskMade.Steps s k o go at x)) = step_guards m past now _ _ o k l h x
entry_guards m past now _ k l h (ByWork w _ other awake over at x) = work_guards m past now w k l h x
entry_guards m past now _ k l h (ByDevice d _ other x) = device_guards m past now d k (λ p i e. scheduled_stage m past l p d i e) h x
entry_guards m past now _ _ l h ByTime = h

-- the guard at each point of a legal journal
pub in_force_at : (m : Machine) (past : List Entry) → JournalPart m past → InForceIf (stage_of past) (phase_failed past) (guard_of past) (in_force past)
in_force_at m [] h = tt
in_force_at m (e ∷ past) h = entry_guards m past e.now e.actor e.kind h.1 (in_force_at m past h.1) (entry_made m past e h)

-- ---- what an entry says

shows_now : (now : EventNow) → (now.inpr == 0) ≡ true → Shows now (visible now)
shows_now now q = record { seen = refl; quiet = eqb-true now.inpr 0 q }

shows_saved : (now : EventNow) (c : ℕ) → (visible now == c) ≡ true → (now.inpr == 0) ≡ true → Shows now c
shows_saved now c s q = record { seen = eqb-true (visible now) c s; quiet = eqb-true now.inpr 0 q }

or_left_false : (a b : Bool) → (a || b) ≡ false → a ≡ false
or_left_false true b e = e
or_left_false false b e = refl

step_says : (m : Machine) (past : List Entry) (now : EventNow) (position : ScriptPosition) (asked : Bool) (o : Option Op) (k : Kind) → StepMade m past now position asked o k → Says past now k
step_says m past now position asked _ _ (StepMade.Reads q) = shows_now now q
step_says m past now position asked _ _ (StepMade.Saves c count free on s q) = shows_saved now c s q
step_says m past now position asked _ _ _ = tt

work_says : (m : Machine) (past : List Entry) (now : EventNow) (w : Work) (k : Kind) → WorkMade m past now w k → Says past now k
work_says m past now _ _ (WorkMade.Reads q) = shows_now now q
work_says m past now _ _ (WorkMade.Saves c free s q) = shows_saved now c s q
work_says m past now _ _ _ = tt

maker_says : (m : Machine) (past : List Entry) (now : EventNow) (there : Stage) (k : Kind) → InForceAt there (phase_failed past) (guard_of past) (in_force past) → Made m past now there k → Says past now k
maker_says m past now _ _ h (Made.Enters s w) = record { held = h; quiescent = or_left_false (count_pending (in_force past) now) (nat_lt (forgotten past) now.hard) w }
maker_says m past now _ _ h _ = tt

device_says : (m : Machine) (past : List Entry) (now : EventNow) (d : ℕ) (k : Kind) → DeviceMade m past now d k → Says past now k
device_says m past now d _ (DeviceMade.OwnFails p r down g f) = tt
device_says m past now d _ _ = tt

entry_says : (m : Machine) (past : List Entry) (now : EventNow) (who : Actor) (k : Kind) → InForceIf (stage_of past) (phase_failed past) (guard_of past) (in_force past) → EntryMade m past now who k → Says past now k
entry_says m past now who k h (ByMaker _ here there _ own at come x) =
    let before : InForceAt here (phase_failed past) (guard_of past) (in_force past) = subst (λ (s : Option Stage). InForceIf s (phase_failed past) (guard_of past) (in_force past)) at h in
    maker_says m past now there k (in_force_comes m past here there (phase_failed past) (guard_of past) (in_force past) come before) x
entry_says m past now _ k h (ByTask i _ other (TaskMade.Freezes s go asked)) = tt
entry_says m past now _ _ h (ByTask i _ other (TaskMade.Steps s k o go at x)) = step_says m past now _ _ o k x
entry_says m past now _ k h (ByWork w _ other awake over at x) = work_says m past now w k x
entry_says m past now _ k h (ByDevice d _ other x) = device_says m past now d k x
entry_says m past now _ _ h ByTime = tt

-- each of a legal journal's entries says what is so
pub all_say : (m : Machine) (past : List Entry) → JournalPart m past → AllSay past
all_say m [] h = tt
all_say m (e ∷ past) h = (entry_says m past e.now e.actor e.kind (in_force_at m past h.1) (entry_made m past e h), all_say m past h.1)

-- attempts under a saved count enter only if nothing came since, in each legal list of entries of each machine that has not too many
-- sources
pub guarded_sleep : (m : Machine) → length m.sources ≤ 255 → (past : List Entry) → IsLegal m past → GuardedSleep past
guarded_sleep m sources past h = guarded_of past h.sources h.placed (all_say m (journal past) h.journal) (few_registered m sources past h)

pub guarded_sleeps : (m : Machine) (past : List Entry) → IsLegal m past → length m.sources ≤ 255 → GuardedSleep past
guarded_sleeps m past h sources = guarded_sleep m sources past h
