-- What an attempt stopped is started again, by stages.
use Rattle.std.proofs.Common.{◌≡◌, ◌∙◌, ℕ, zero, suc, Bool, true, false, List, [], ◌∷◌, length, length-set, map, replicate, Option, Some, None, is_some, refl, sym, ap, arith, slice_set}
use Rattle.std.proofs.lemmas.Bool.{true≢false}
use Rattle.sleep_model.specs.declared.entry.Actor.{Actor}
use Rattle.sleep_model.specs.declared.entry.Actor.TheVariants as actor
use Rattle.sleep_model.specs.declared.entry.Entry.{Entry}
use Rattle.sleep_model.specs.declared.entry.Group.{Group}
use Rattle.sleep_model.specs.declared.entry.Kind.{Kind}
use Rattle.sleep_model.specs.declared.entry.Kind.TheVariants as kind
use Rattle.sleep_model.specs.declared.entry.Thaw.{Thaw as Thawing}
use Rattle.sleep_model.specs.declared.entry.Thaw.TheVariants as thaw
use Rattle.sleep_model.specs.declared.machine.Machine.{Machine}
use Rattle.sleep_model.specs.declared.machine.Script.{Script}
use Rattle.sleep_model.specs.declared.progress.Callback.{Callback}
use Rattle.sleep_model.specs.declared.progress.Freezing.{Freezing}
use Rattle.sleep_model.specs.declared.machine.Op.{Op}
use Rattle.sleep_model.specs.declared.progress.ScriptPosition.{ScriptPosition}
use Rattle.sleep_model.specs.declared.progress.Work.{Work}
use Rattle.sleep_model.specs.declared.progress.Stage.{Stage}
use Rattle.sleep_model.specs.declared.progress.Stage.TheVariants as stage
use Rattle.sleep_model.specs.declared.word.EventNow.{EventNow}
use Rattle.phase_table.specs.declared.phase.Phase.TheVariants as phase
use Rattle.sleep_model.specs.Devices.{callback, is_device}
use Rattle.sleep_model.specs.Freezer.{unasked, freezings, freezings_after, freezing_at, all_asked, all_let_go, put_frozen}
use Rattle.sleep_model.specs.Laws.{NothingOwed, NoneIsInPhase, Restored}
use Rattle.sleep_model.specs.Legal.{JournalPart}
use Rattle.sleep_model.specs.Notifiers.{notified_flags, cpus_off, stopped, other_cpus}
use Rattle.sleep_model.specs.Order.{is_among}
use Rattle.sleep_model.specs.Table.{stage_of, stage_after}
use Rattle.sleep_model.specs.Walk.{is_so}
use Rattle.sleep_laws.proofs.Answering.{Side, side_invariant}
use Rattle.sleep_laws.proofs.Flags.{first_among, run_least, set_other, none_notified, none_stopped, none_off}
use Rattle.sleep_laws.proofs.LockHolding.{Outside, Moved, Opens, Makes, Beside, Owns, moved, StageInvariant, at_made, entry_of, IsMaker}
use Rattle.sleep_laws.proofs.Levels.{Exact, exact_invariant}
use Rattle.sleep_laws.proofs.Made.{Made, Comes, DeviceMade, TaskMade, StepMade, WorkMade, EntryMade, ByTask, ByMaker, ByWork, ByDevice, AtOnce, PastNotifiers, PastCpus, PastParts, PastPartsUp, PastCpusUp, PastPosts}

-- ---- what is undone at a stage

-- no notifier is owed its post outside attempts, and at their end
abbrev pub NotifiersAt : ℕ → Option Stage → List Bool → Type 0
NotifiersAt n None flags = flags ≡ replicate n false
NotifiersAt n (Some stage.Ends) flags = flags ≡ replicate n false
NotifiersAt n (Some _) flags = Unit {0}

-- no processor is off but from the stopping of processors to their starting
abbrev pub CpusAt : ℕ → Option Stage → List Bool → Type 0
CpusAt n (Some stage.StopsCpus) flags = Unit {0}
CpusAt n (Some stage.StopsIrqs) flags = Unit {0}
CpusAt n (Some stage.ChecksWakeup) flags = Unit {0}
CpusAt n (Some stage.StopsSyscore) flags = Unit {0}
CpusAt n (Some stage.Enters) flags = Unit {0}
CpusAt n (Some stage.StartsSyscore) flags = Unit {0}
CpusAt n (Some stage.StartsIrqs) flags = Unit {0}
CpusAt n (Some stage.StartsCpus) flags = Unit {0}
CpusAt n _ flags = flags ≡ replicate n false

-- no syscore operation is suspended but from the suspending of them to their resuming
abbrev pub PartsAt : ℕ → Option Stage → List Bool → Type 0
PartsAt n (Some stage.StopsSyscore) flags = Unit {0}
PartsAt n (Some stage.Enters) flags = Unit {0}
PartsAt n (Some stage.StartsSyscore) flags = Unit {0}
PartsAt n _ flags = flags ≡ replicate n false

-- no task is asked to freeze outside attempts, before the freeze of tasks, and after the thaw of all
abbrev pub TasksAt : List Script → Option Stage → List Freezing → Type 0
TasksAt scripts None those = those ≡ map (λ s. unasked) scripts
TasksAt scripts (Some stage.Notifies) those = those ≡ map (λ s. unasked) scripts
TasksAt scripts (Some stage.NotifiesPost) those = those ≡ map (λ s. unasked) scripts
TasksAt scripts (Some stage.Ends) those = those ≡ map (λ s. unasked) scripts
TasksAt scripts (Some _) those = Unit {0}

-- the maker runs no callback but in a phase of devices
abbrev pub CallbackAt : Option Stage → Option Callback → Type 0
CallbackAt (Some (stage.Downs p)) c = Unit {0}
CallbackAt (Some (stage.Ups p)) c = Unit {0}
CallbackAt _ c = c ≡ None

-- the same of all, by values; the first processor is never off
abbrev pub Undone : Machine → Option Stage → List Bool → List Bool → List Bool → List Freezing → Option Callback → Type 0
Undone m s flags cpus parts those c =
    NotifiersAt (length m.notifiers) s flags × CpusAt m.cpus s cpus × PartsAt (length m.syscore) s parts × TasksAt m.actors s those × CallbackAt s c × (is_so cpus 0 ≡ false)

abbrev pub IsUndone : Machine → Option Stage → List Entry → Type 0
IsUndone m s past = Undone m s (notified_flags m past) (cpus_off m.cpus past) (stopped (length m.syscore) past) (freezings m.actors past) (callback past)

-- ---- tasks

length_asked : (g : Group) (who : Actor) (i : ℕ) (ss : List Script) (fs : List Freezing) → length fs ≡ length ss → length (all_asked g who i ss fs) ≡ length ss
length_asked g who i [] fs e = refl
length_asked g who i (s ∷ ss) [] e = absurd (omega arith)
length_asked g who i (s ∷ ss) (f ∷ fs) e = ap suc (length_asked g who (suc i) ss fs (omega arith))

length_let_go : (those : Thawing) (ss : List Script) (fs : List Freezing) → length fs ≡ length ss → length (all_let_go those ss fs) ≡ length ss
length_let_go those [] fs e = refl
length_let_go those (s ∷ ss) [] e = absurd (omega arith)
length_let_go those (s ∷ ss) (f ∷ fs) e = ap suc (length_let_go those ss fs (omega arith))

length_frozen : (who : Actor) (fs : List Freezing) → length (put_frozen who fs) ≡ length fs
length_frozen (actor.Script i) fs = length-set fs i (record (freezing_at fs i) { frozen = true })
length_frozen actor.Auto fs = refl
length_frozen (actor.Dev d) fs = refl
length_frozen (actor.Timer s) fs = refl
length_frozen actor.Time fs = refl

length_after : (ss : List Script) (who : Actor) (k : Kind) (fs : List Freezing) → length fs ≡ length ss → length (freezings_after ss who k fs) ≡ length ss
length_after ss who (kind.Freeze g) fs e = length_asked g who 0 ss fs e
length_after ss who (kind.Thaw those) fs e = length_let_go those ss fs e
length_after ss who kind.Frozen fs e = length_frozen who fs ∙ e
length_after ss who _ fs e = e

length_unasked : (ss : List Script) → length (map (λ s. unasked) ss) ≡ length ss
length_unasked [] = refl
length_unasked (s ∷ ss) = ap suc (length_unasked ss)

-- each task has its own among the freezings
pub freezings_length : (ss : List Script) (past : List Entry) → length (freezings ss past) ≡ length ss
freezings_length ss [] = length_unasked ss
freezings_length ss (e ∷ past) = length_after ss e.actor e.kind (freezings ss past) (freezings_length ss past)

-- a thaw of all lets all go
all_exited_free : (ss : List Script) (fs : List Freezing) → length fs ≡ length ss → all_let_go thaw.All ss fs ≡ map (λ s. unasked) ss
all_exited_free [] fs e = refl
all_exited_free (s ∷ ss) [] e = absurd (omega arith)
all_exited_free (s ∷ ss) (f ∷ fs) e = ap (λ gs. unasked ∷ gs) (all_exited_free ss fs (omega arith))

unasked_at : (ss : List Script) (i : ℕ) → (freezing_at (map (λ s. unasked) ss) i).asked ≡ false
unasked_at [] i = refl
unasked_at (s ∷ ss) zero = refl
unasked_at (s ∷ ss) (suc i) = unasked_at ss i

not_asked : (ss : List Script) (fs : List Freezing) (i : ℕ) → (freezing_at fs i).asked ≡ true → fs ≡ map (λ s. unasked) ss → ⊥
not_asked ss fs i a e = true≢false (sym a ∙ (ap (λ gs. (freezing_at gs i).asked) e ∙ unasked_at ss i))

-- a task that freezes was asked
task_frozen : (ss : List Script) (s : Option Stage) (fs : List Freezing) (i : ℕ) → (freezing_at fs i).asked ≡ true → TasksAt ss s fs → TasksAt ss s (put_frozen (actor.Script i) fs)
task_frozen ss None fs i a h = absurd (not_asked ss fs i a h)
task_frozen ss (Some stage.Notifies) fs i a h = absurd (not_asked ss fs i a h)
task_frozen ss (Some stage.NotifiesPost) fs i a h = absurd (not_asked ss fs i a h)
task_frozen ss (Some stage.Ends) fs i a h = absurd (not_asked ss fs i a h)
task_frozen ss (Some _) fs i a h = tt

-- ---- by stages

undone_comes : (m : Machine) (past : List Entry) (here there : Stage) → Comes m past here there → IsUndone m (Some here) past → IsUndone m (Some there) past
undone_comes m past _ _ (AtOnce here) h = h
undone_comes m past _ _ (PastNotifiers e) h = (h.0, h.1, h.2, tt, h.4, h.5)
undone_comes m past _ _ (PastCpus e) h = h
undone_comes m past _ _ (PastParts e) h = h
undone_comes m past _ _ (PastPartsUp e) h = (h.0, h.1, none_stopped m past e, h.3, h.4, h.5)
undone_comes m past _ _ (PastCpusUp e) h = (h.0, none_off m past h.5 e, h.2, h.3, h.4, h.5)
undone_comes m past _ _ (PastPosts e) h = (none_notified m past e, h.1, h.2, h.3, h.4, h.5)

-- a processor that is stopped or started is not the first
other_cpu : (m : Machine) (past : List Entry) (k : ℕ) → is_among (other_cpus m) k ≡ true → (b : Bool) → is_so (cpus_off m.cpus past) 0 ≡ false → is_so (slice_set (cpus_off m.cpus past) k b) 0 ≡ false
other_cpu m past k e b z = set_other (cpus_off m.cpus past) k b (run_least 1 _ k e) ∙ z

undone_makes : (m : Machine) (past : List Entry) (time : ℕ) (now : EventNow) (who : Actor) (there : Stage) (k : Kind) → IsMaker past who → Made m past now there k → IsUndone m (Some there) past → IsUndone m (stage_after k (Some there)) (entry_of time now who k ∷ past)
undone_makes m past time now who _ _ a (Made.SuspendFails r x) h = (h.0, h.1, h.2, h.3, x.free, h.5)
undone_makes m past time now who _ _ a (Made.SuspendEnds x) h = (h.0, h.1, h.2, h.3, x.free, h.5)
undone_makes m past time now who _ _ a (Made.LateFails r x) h = h
undone_makes m past time now who _ _ a (Made.LateEnds x) h = h
undone_makes m past time now who _ _ a (Made.NoirqEnds x) h = (h.0, h.1, h.2, h.3, x.free, h.5)
undone_makes m past time now who _ _ a (Made.EarlyEnds x) h = (h.0, h.1, h.2, h.3, x.free, h.5)
undone_makes m past time now who _ _ a (Made.ResumeEnds x) h = (h.0, h.1, h.2, h.3, x.free, h.5)
undone_makes m past time now who _ _ a Made.PlatformPrepares h = (h.0, h.1, h.2, h.3, tt, h.5)
undone_makes m past time now who _ _ a Made.PlatformPreparesLate h = (h.0, tt, h.2, h.3, h.4, h.5)
undone_makes m past time now who _ _ a (Made.Prepared e f) h = (h.0, h.1, h.2, h.3, tt, h.5)
undone_makes m past time now who _ _ a (Made.Checks e) h = (h.0, h.1, tt, h.3, h.4, h.5)
undone_makes m past time now who _ _ a Made.PlatformRecovers h = (h.0, h.1, h.2, h.3, tt, h.5)
undone_makes m past time now who _ _ a Made.PlatformWakes h = (h.0, h.1, h.2, h.3, tt, h.5)
undone_makes m past time now who _ _ a Made.PlatformFinishes h = (h.0, h.1, h.2, h.3, tt, h.5)
undone_makes m past time now who _ _ a (Made.StopsCpu k e p) h = (h.0, h.1, h.2, h.3, h.4, other_cpu m past k (first_among _ (other_cpus m) k e) true h.5)
undone_makes m past time now who _ _ a (Made.StartsCpu k e) h = (h.0, h.1, h.2, h.3, h.4, other_cpu m past k (first_among _ (other_cpus m) k e) false h.5)
undone_makes m past time now who _ _ a Made.ThawsAll h = (h.0, h.1, h.2, all_exited_free m.actors (freezings m.actors past) (freezings_length m.actors past), h.4, h.5)
undone_makes m past time now who _ _ a Made.Ends h = h
undone_makes m past time now who _ _ a _ h = h

undone_frozen : (m : Machine) (past : List Entry) (time : ℕ) (now : EventNow) (who : Actor) (s : Option Stage) → EntryMade m past now who kind.Frozen → IsUndone m s past → IsUndone m s (entry_of time now who kind.Frozen ∷ past)
undone_frozen m past time now _ s (ByTask i _ a (TaskMade.Freezes x go f)) h = (h.0, h.1, h.2, task_frozen m.actors s (freezings m.actors past) i f h.3, h.4, h.5)
undone_frozen m past time now _ s (ByTask i _ a (TaskMade.Steps x _ o go e st)) h = absurd (no_step m past now _ _ o st)
  where
    no_step : (m : Machine) (past : List Entry) (now : EventNow) (position : ScriptPosition) (asked : Bool) (o : Option Op) → StepMade m past now position asked o kind.Frozen → ⊥
    no_step m past now position asked o x = elim x [ ]
undone_frozen m past time now _ s (ByMaker who here there _ a e c d) h = absurd (not_made m past now there d)
  where
    not_made : (m : Machine) (past : List Entry) (now : EventNow) (there : Stage) → Made m past now there kind.Frozen → ⊥
    not_made m past now there x = elim x [ ]
undone_frozen m past time now _ s (ByWork w _ a x o e d) h = absurd (not_work m past now w d)
  where
    not_work : (m : Machine) (past : List Entry) (now : EventNow) (w : Work) → WorkMade m past now w kind.Frozen → ⊥
    not_work m past now w x = elim x [ ]
undone_frozen m past time now _ s (ByDevice d _ a x) h = absurd (not_device m past now d x)
  where
    not_device : (m : Machine) (past : List Entry) (now : EventNow) (d : ℕ) → DeviceMade m past now d kind.Frozen → ⊥
    not_device m past now d x = elim x [ ]

undone_beside : (m : Machine) (past : List Entry) (time : ℕ) (now : EventNow) (who : Actor) (k : Kind) (s : Option Stage) → EntryMade m past now who k → is_device who ≡ false → Outside s k → IsUndone m s past → IsUndone m s (entry_of time now who k ∷ past)
undone_beside m past time now who _ s x a Outside.Frozen h = undone_frozen m past time now who s x h
undone_beside m past time now who _ s x a _ h = h

undone_owns : (m : Machine) (past : List Entry) (time : ℕ) (now : EventNow) (d : ℕ) (k : Kind) (s : Option Stage) → DeviceMade m past now d k → IsUndone m s past → IsUndone m s (entry_of time now (actor.Dev d) k ∷ past)
undone_owns m past time now d _ s (DeviceMade.OwnFails p r w g f) h = h
undone_owns m past time now d _ s _ h = h

first_on : (n : ℕ) → is_so (replicate n false) 0 ≡ false
first_on zero = refl
first_on (suc n) = refl

pub undone_invariant : (m : Machine) → StageInvariant m (IsUndone m)
undone_invariant m = record { starts = (refl, refl, refl, refl, refl, first_on m.cpus); opens = λ past time now who n guarded h. (tt, h.1, h.2, h.3, h.4, h.5); comes = undone_comes m; makes = undone_makes m; beside = undone_beside m; owns = undone_owns m }

-- at the end of an attempt nothing is owed, if no device is in a phase
pub nothing_owed : (m : Machine) (past : List Entry) → JournalPart m past → (here : Stage) → stage_of past ≡ Some here → Comes m past here stage.Ends → NoneIsInPhase m phase.Suspend past → NoneIsInPhase m phase.Late past → NoneIsInPhase m phase.Noirq past → NothingOwed m past
nothing_owed m past h here e c suspend late noirq =
    let u : IsUndone m (Some stage.Ends) past = at_made m (IsUndone m) (undone_invariant m) past h here stage.Ends e c in
    let x : Exact (Some stage.Ends) past = at_made m Exact (exact_invariant m) past h here stage.Ends e c in
    record { notifiers = u.0; tasks = u.3; begun = x.1; prepared = x.2; prepared_late = x.3; suspend = suspend; late = late; noirq = noirq; callbacks = u.4; cpus = u.1; irqs = x.0; syscore = u.2; awake = ap is_some (at_made m Side (side_invariant m) past h here stage.Ends e c).1 }

-- ---- the law

-- the part of the law that is on devices: once an attempt is over none is in a phase
abbrev pub StandsRestored : Machine → List Entry → Kind → Type 0
StandsRestored m past (kind.Over n r) = NoneIsInPhase m phase.Suspend past × NoneIsInPhase m phase.Late past × NoneIsInPhase m phase.Noirq past
StandsRestored m past _ = Unit {0}

restored_made : (m : Machine) (past : List Entry) (now : EventNow) (here there : Stage) (k : Kind) → JournalPart m past → stage_of past ≡ Some here → Comes m past here there → Made m past now there k → StandsRestored m past k → Restored m past k
restored_made m past now here _ _ h e c Made.Ends d = nothing_owed m past h here e c d.0 d.1 d.2
restored_made m past now here _ _ h e c _ d = tt

restored_outside : (m : Machine) (past : List Entry) (k : Kind) {s : Option Stage} → Outside s k → Restored m past k
restored_outside m past _ Outside.Frozen = tt
restored_outside m past _ _ = tt

restored_own : (m : Machine) (past : List Entry) (now : EventNow) (d : ℕ) (k : Kind) → DeviceMade m past now d k → Restored m past k
restored_own m past now d _ (DeviceMade.OwnFails p r w g f) = tt
restored_own m past now d _ _ = tt

restored_moved : (m : Machine) (past : List Entry) (now : EventNow) (who : Actor) (k : Kind) → JournalPart m past → Moved m past now who k → StandsRestored m past k → Restored m past k
restored_moved m past now who _ h (Opens _ n guarded f e) d = tt
restored_moved m past now who k h (Makes _ here there _ a e c x) d = restored_made m past now here there k h e c x d
restored_moved m past now who k h (Beside _ _ a x) d = restored_outside m past k x
restored_moved m past now _ k h (Owns y _ x) d = restored_own m past now y k x

-- once an attempt is over nothing is owed, if no device is in a phase
pub restored : (m : Machine) (past : List Entry) (e : Entry) → JournalPart m (e ∷ past) → StandsRestored m past e.kind → Restored m past e.kind
restored m past e h d = restored_moved m past e.now e.actor e.kind h.1 (moved m past e h) d
