-- While no attempt is open, a script that has exited or sleeps on makes nothing, nor does a device, nor the autosleep work that is not queued.
use Rattle.std.proofs.Common.{◌≡◌, ◌≤◌, ◌<◌, ◌+◌, ◌∙◌, ◌⊎◌, inl, inr, ℕ, zero, suc, Bool, true, false, not, ◌&&◌, ◌||◌, nat_lt, nat_le, List, [], ◌∷◌, length, map, slice_get, slice_set, Option, Some, None, is_some, refl, sym, ap, ap₂, subst, cond, arith}
use Rattle.std.proofs.lemmas.Bool.Decides.{nat_tests}
use Rattle.sleep_model.specs.declared.entry.Actor.{Actor}
use Rattle.sleep_model.specs.declared.entry.Actor.TheVariants as actor
use Rattle.sleep_model.specs.declared.entry.Entry.{Entry}
use Rattle.sleep_model.specs.declared.entry.Kind.{Kind}
use Rattle.sleep_model.specs.declared.entry.Kind.TheVariants as kind
use Rattle.sleep_model.specs.declared.machine.Machine.{Machine}
use Rattle.sleep_model.specs.declared.machine.Op.{Op}
use Rattle.sleep_model.specs.declared.machine.Op.TheVariants as op
use Rattle.sleep_model.specs.declared.machine.Script.{Script}
use Rattle.sleep_model.specs.declared.progress.AsyncWork.TheVariants.{Idle}
use Rattle.sleep_model.specs.declared.progress.Due.TheVariants.{Makes, Waits, Nothing}
use Rattle.sleep_model.specs.declared.progress.ScriptPosition.{ScriptPosition}
use Rattle.sleep_model.specs.declared.progress.Stage.{Stage}
use Rattle.sleep_model.specs.declared.progress.PhaseState.{PhaseState}
use Rattle.sleep_model.specs.declared.progress.PhaseState.TheVariants as phase_state
use Rattle.sleep_model.specs.declared.log.Why.TheVariants as why
use Rattle.sleep_model.specs.declared.word.EventNow.{EventNow}
use Rattle.phase_table.specs.declared.phase.Phase.{Phase}
use Rattle.phase_table.specs.declared.phase.Phase.TheVariants as phase
use Rattle.sleep_model.specs.Attempt.{attempt_due, sleep_of, sleeps_now}
use Rattle.sleep_model.specs.declared.progress.Work.TheVariants.{Resting}
use Rattle.sleep_model.specs.Autosleep.{auto_due, is_queued, naps_until, runs, work, work_due}
use Rattle.sleep_model.specs.Devices.{work_by, device_due, state_in, is_async_device}
use Rattle.sleep_model.specs.Due.{due, is_over, own_due}
use Rattle.sleep_model.specs.Freezer.{unasked, freezing_at, freezing}
use Rattle.sleep_model.specs.Legal.{JournalPart, alarm_at, deadline_at, is_made, journal_time, pending_nap, sooner, pending_sleep, next_sleep}
use Rattle.sleep_model.specs.Numbers.{time_of}
use Rattle.sleep_model.specs.Path.{maker, is_actor}
use Rattle.sleep_model.specs.Scripts.{entry_steps}
use Rattle.sleep_model.specs.Positions.{PositionEffect, position_at, position_effect, position_after, positions_after, positions}
use Rattle.sleep_model.specs.Steps.{slept_due, step_due, task_due, position_due}
use Rattle.sleep_model.specs.Tasks.{is_line}
use Rattle.sleep_laws.proofs.Answering.{Side, side_invariant}
use Rattle.sleep_laws.proofs.Asking.{IsAsked, asked_invariant}
use Rattle.sleep_laws.proofs.Boards.{at, at_is, three}
use Rattle.sleep_laws.proofs.LockHolding.{at_stage, stage_none}
use Rattle.sleep_laws.proofs.Made.{Down, InSuspend, InLate, InNoirq, Made, StepMade, TaskMade, EntryMade, ByMaker, ByTask, ByWork, ByDevice, ByTime}
use Rattle.sleep_laws.proofs.MakingOwn.{entry_made}
use Rattle.sleep_laws.proofs.Moods.{when_empty}
use Rattle.sleep_laws.proofs.Passing.{device_phases}
use Rattle.sleep_laws.proofs.Restoring.{IsUndone, undone_invariant}
use Rattle.sleep_laws.proofs.DevicePhases.{DevicePhases}
use Rattle.sleep_laws.proofs.Telling.{none≢some}
use Rattle.sleep_laws.proofs.Turning.{never}
use Rattle.sleep_state.specs.Sleepers.{earliest_end, sleeps_past, is_stopped}
use Rattle.sleep_core.proofs.Positioned.{first_positions, positions_len}

-- ---- a script that sleeps is at an operation by which it sleeps

-- an operation that sleeps
abbrev IsSleep : Option Op → Type 0
IsSleep (Some (op.Sleep ms)) = Unit {0}
IsSleep (Some (op.SleepD ms)) = Unit {0}
IsSleep _ = ⊥

-- a script with that position has begun to sleep
abbrev HasBegun : Option Script → ScriptPosition → Type 0
HasBegun None position = ⊥
HasBegun (Some s) position = (position.waits ≡ true) × IsSleep (slice_get (entry_steps s) position.done)

-- it has, if it knows until when
abbrev SleepsIf : Option Script → ScriptPosition → Type 0
SleepsIf o position = (until : ℕ) → position.until ≡ Some until → HasBegun o position

step_sleeps : (m : Machine) (past : List Entry) (now : EventNow) (s : Script) (position : ScriptPosition) (asked : Bool) (o : Option Op) (k : Kind) → StepMade m past now position asked o k → slice_get (entry_steps s) position.done ≡ o → SleepsIf (Some s) position → SleepsIf (Some s) (position_after (position_effect k) position)
step_sleeps m past now s position asked _ _ (StepMade.Sleeps ms until w) here h u e = (refl, subst IsSleep (sym here) tt)
step_sleeps m past now s position asked _ _ (StepMade.SleepsD ms until w) here h u e = (refl, subst IsSleep (sym here) tt)
step_sleeps m past now s position asked _ _ StepMade.Exits here h u e = absurd (subst IsSleep here (h u e).1)
step_sleeps m past now s position asked _ _ (StepMade.ReadWaits q w) here h u e = absurd (subst IsSleep here (h u e).1)
step_sleeps m past now s position asked _ _ (StepMade.SaveWaits c count w) here h u e = absurd (subst IsSleep here (h u e).1)
step_sleeps m past now s position asked _ _ (StepMade.StateWaits text if_saved w) here h u e = absurd (subst IsSleep here (h u e).1)
step_sleeps m past now s position asked _ _ (StepMade.AutoSets text state w f) here h u e = absurd (subst IsSleep here (h u e).1)
step_sleeps m past now s position asked _ _ (StepMade.Attempts text if_saved f g) here h u e = absurd (subst IsSleep here (h u e).1)
step_sleeps m past now s position asked _ _ _ here h u e = absurd (none≢some u e)

maker_sleeps : (m : Machine) (past : List Entry) (now : EventNow) (there : Stage) (k : Kind) → Made m past now there k → (o : Option Script) (position : ScriptPosition) → SleepsIf o position → SleepsIf o (position_after (position_effect k) position)
maker_sleeps m past now _ _ Made.Ends o position h u e = absurd (none≢some u e)
maker_sleeps m past now _ _ _ o position h u e = h u e

-- what is read after a write: the new position at its own number, else the old one
set_at : (ss : List ScriptPosition) (i j : ℕ) (v : ScriptPosition) → ((i ≡ j) × (position_at (slice_set ss i v) j ≡ v)) ⊎ (position_at (slice_set ss i v) j ≡ position_at ss j)
set_at [] i j v = inr refl
set_at (x ∷ xs) zero zero v = inl (refl, refl)
set_at (x ∷ xs) zero (suc j) v = inr refl
set_at (x ∷ xs) (suc i) zero v = inr refl
set_at (x ∷ xs) (suc i) (suc j) v =
    elim (set_at xs i j v) [
      | inl e ↦ inl (ap suc e.0, e.1)
      | inr e ↦ inr e
    ]

own_sleeps : (scripts : List Script) (ss : List ScriptPosition) (i j : ℕ) (p : PositionEffect) → SleepsIf (slice_get scripts j) (position_at ss j) → (i ≡ j → SleepsIf (slice_get scripts j) (position_after p (position_at ss j)))
    → SleepsIf (slice_get scripts j) (position_at (positions_after (actor.Script i) p ss) j)
own_sleeps scripts ss i j p h own =
    elim (set_at ss i j (position_after p (position_at ss i))) [
      | inl e ↦ subst (SleepsIf (slice_get scripts j)) (sym (e.1 ∙ ap (λ n. position_after p (position_at ss n)) e.0)) (own e.0)
      | inr e ↦ subst (SleepsIf (slice_get scripts j)) (sym e) h
    ]

module _ (m : Machine) (past : List Entry) where
  abbrev position_of : ℕ → ScriptPosition
  position_of i = position_at (positions (length m.actors) past) i

  task_sleeps : (now : EventNow) (i j : ℕ) (k : Kind) → TaskMade m past now i k → i ≡ j → SleepsIf (slice_get m.actors j) (position_of j) → SleepsIf (slice_get m.actors j) (position_after (position_effect k) (position_of j))
  task_sleeps now i j _ (TaskMade.Freezes s go f) same h = h
  task_sleeps now i j k (TaskMade.Steps s _ o go e step) same h =
      subst (λ (n : ℕ). SleepsIf (slice_get m.actors n) (position_of n) → SleepsIf (slice_get m.actors n) (position_after (position_effect k) (position_of n))) same
      (λ own. subst (λ (x : Option Script). SleepsIf x (position_after (position_effect k) (position_of i))) (sym go.script)
      (step_sleeps m past now s (position_of i) _ o k step e (subst (λ (x : Option Script). SleepsIf x (position_of i)) go.script own))) h

  entry_sleeps : (now : EventNow) (who : Actor) (k : Kind) (j : ℕ) → EntryMade m past now who k → SleepsIf (slice_get m.actors j) (position_of j) → SleepsIf (slice_get m.actors j) (position_at (positions_after who (position_effect k) (positions (length m.actors) past)) j)
  entry_sleeps now who k j (ByMaker _ here there _ a e c d) h = by_actor who
    where
      by_actor : (w : Actor) → SleepsIf (slice_get m.actors j) (position_at (positions_after w (position_effect k) (positions (length m.actors) past)) j)
      by_actor (actor.Script i) = own_sleeps m.actors (positions (length m.actors) past) i j (position_effect k) h (λ same. maker_sleeps m past now there k d (slice_get m.actors j) (position_of j) h)
      by_actor _ = h
  entry_sleeps now _ k j (ByTask i _ a t) h = own_sleeps m.actors (positions (length m.actors) past) i j (position_effect k) h (λ same. task_sleeps now i j k t same h)
  entry_sleeps now _ k j (ByWork w _ a s o e d) h = h
  entry_sleeps now _ k j (ByDevice d _ a x) h = h
  entry_sleeps now _ _ j ByTime h = h

sleeps_if : (m : Machine) (past : List Entry) (j : ℕ) → JournalPart m past → SleepsIf (slice_get m.actors j) (position_at (positions (length m.actors) past) j)
sleeps_if m [] j h = λ u e. absurd (none≢some u (ap (λ (s : ScriptPosition). s.until) (sym (first_positions (length m.actors) j)) ∙ e))
sleeps_if m (x ∷ past) j h = entry_sleeps m past x.now x.actor x.kind j (entry_made m past x h) (sleeps_if m past j h.1)

-- ---- nobody is asked to freeze

unasked_at : (ss : List Script) (i : ℕ) → freezing_at (map (λ s. unasked) ss) i ≡ unasked
unasked_at [] i = refl
unasked_at (s ∷ ss) zero = refl
unasked_at (s ∷ ss) (suc i) = unasked_at ss i

pub thawed : (m : Machine) (past : List Entry) (i : ℕ) → JournalPart m past → maker past ≡ None → freezing m i past ≡ unasked
thawed m past i h closed =
    let u : IsUndone m None past = subst (λ (s : Option Stage). IsUndone m s past) (stage_none m past h closed) (at_stage m (IsUndone m) (undone_invariant m) past h) in
    ap (λ fs. freezing_at fs i) u.3 ∙ unasked_at m.actors i

-- ---- a script

slept_on : (until time : ℕ) → nat_lt time until ≡ true → is_made (slept_due (Some until) time) ≡ false
slept_on until time l = by_test (nat_le until time) refl
  where
    by_test : (b : Bool) → nat_le until time ≡ b → is_made (cond b (Makes kind.Slept) (Waits (why.Until until))) ≡ false
    by_test true t = absurd (grind (arith, nat_tests))
    by_test false t = refl

step_still : (m : Machine) (past : List Entry) (now : EventNow) (position : ScriptPosition) (asked : Bool) (o : Option Op) (until : ℕ) → position.waits ≡ true → IsSleep o → position.until ≡ Some until → nat_lt (time_of past) until ≡ true → is_made (step_due m past now position asked o) ≡ false
step_still m past now position asked (Some (op.Sleep ms)) until w i e l =
    ap (λ b. is_made (cond b (slept_due position.until (time_of past)) (Makes (kind.Sleep (time_of past + ms))))) w
    ∙ (ap (λ x. is_made (slept_due x (time_of past))) e ∙ slept_on until (time_of past) l)
step_still m past now position asked (Some (op.SleepD ms)) until w i e l =
    ap (λ b. is_made (cond b (slept_due position.until (time_of past)) (Makes (kind.SleepD (time_of past + ms))))) w
    ∙ (ap (λ x. is_made (slept_due x (time_of past))) e ∙ slept_on until (time_of past) l)
step_still m past now position asked None until w i e l = absurd i
step_still m past now position asked (Some _) until w i e l = absurd i

position_still : (m : Machine) (past : List Entry) (now : EventNow) (o : Option Script) (position : ScriptPosition) → SleepsIf o position → is_stopped position (time_of past) ≡ true → is_made (position_due m past now unasked o position) ≡ false
position_still m past now None position h still = refl
position_still m past now (Some s) position h still = by_exit position.exited refl
  where
    by_until : (o : Option ℕ) → position.until ≡ o → sleeps_past o (time_of past) ≡ true → is_made (task_due m past now unasked s.kind position (slice_get (entry_steps s) position.done)) ≡ false
    by_until None e l = never l
    by_until (Some until) e l = by_sleep (sleeps_now past && not (is_line s.kind))
      where
        by_sleep : (b : Bool) → is_made (cond b (Waits why.Asleep) (step_due m past now position false (slice_get (entry_steps s) position.done))) ≡ false
        by_sleep true = refl
        by_sleep false = step_still m past now position false (slice_get (entry_steps s) position.done) until (h until e).0 (h until e).1 e l

    by_exit : (b : Bool) → position.exited ≡ b → is_made (cond b Nothing (task_due m past now unasked s.kind position (slice_get (entry_steps s) position.done))) ≡ false
    by_exit true e = refl
    by_exit false e = by_until position.until refl (subst (λ (b : Bool). (b || sleeps_past position.until (time_of past)) ≡ true) e still)

-- a script that has exited or sleeps on makes nothing while no attempt is open
pub still_rests : (m : Machine) (past : List Entry) (now : EventNow) (i : ℕ) → JournalPart m past → maker past ≡ None → is_stopped (position_at (positions (length m.actors) past) i) (time_of past) ≡ true → is_made (due m past (actor.Script i) now) ≡ false
still_rests m past now i h closed still =
    ap (λ o. is_made (cond (is_actor (actor.Script i) o) (attempt_due m past now) (own_due m past (actor.Script i) now))) closed
    ∙ (ap (λ f. is_made (position_due m past now f (slice_get m.actors i) (position_at (positions (length m.actors) past) i))) (thawed m past i h closed)
    ∙ position_still m past now (slice_get m.actors i) (position_at (positions (length m.actors) past) i) (sleeps_if m past i h) still)

-- ---- the autosleep work

-- the autosleep work makes nothing while it rests, is not queued, and no attempt is open
pub work_waits : (m : Machine) (past : List Entry) (now : EventNow) → maker past ≡ None → work past ≡ Resting → is_queued past ≡ false → is_made (due m past actor.Auto now) ≡ false
work_waits m past now closed rest unqueued =
    ap (λ o. is_made (cond (is_actor actor.Auto o) (attempt_due m past now) (own_due m past actor.Auto now))) closed ∙ by_state (sleeps_now past) (is_over m past)
  where
    by_state : (asleep over : Bool) → is_made (auto_due m past now asleep over) ≡ false
    by_state true over = refl
    by_state false true = refl
    by_state false false =
        ap (λ w. is_made (work_due m past now w)) rest
        ∙ ap (λ q. is_made (cond (q && nat_lt (runs past) m.auto_cycles) (Makes kind.AutoRun) (Waits why.NoWork))) unqueued

-- ---- the least end of a sleep

awake : (m : Machine) (past : List Entry) → JournalPart m past → maker past ≡ None → sleeps_now past ≡ false
awake m past h closed =
    let s : Side None past = subst (λ (o : Option Stage). Side o past) (stage_none m past h closed) (at_stage m Side (side_invariant m) past h) in
    ap is_some s

get_script : (ss : List Script) (i : ℕ) (position : ScriptPosition) → i < length ss → pending_sleep false unasked (slice_get ss i) position ≡ position.until
get_script [] i position l = absurd (omega (arith, l))
get_script (s ∷ ss) zero position l = refl
get_script (s ∷ ss) (suc i) position l = get_script ss i position (omega (arith, l))

ends_among : (m : Machine) (past : List Entry) (n : ℕ) → n ≤ length m.actors → JournalPart m past → maker past ≡ None → earliest_end (positions (length m.actors) past) n ≡ next_sleep m past n
ends_among m past zero l h closed = refl
ends_among m past (suc n) l h closed =
    ap₂ sooner
    (sym (ap₂ (λ b f. pending_sleep b f (slice_get m.actors n) (position_at (positions (length m.actors) past) n)) (awake m past h closed) (thawed m past n h closed)
    ∙ get_script m.actors n (position_at (positions (length m.actors) past) n) (omega (arith, l))))
    (ends_among m past n (omega (arith, l)) h closed)

-- while no attempt is open, the least end of all sleeps is pending
pub ends_pending : (m : Machine) (past : List Entry) → JournalPart m past → maker past ≡ None → earliest_end (positions (length m.actors) past) (length (positions (length m.actors) past)) ≡ next_sleep m past (length m.actors)
ends_pending m past h closed = ap (earliest_end (positions (length m.actors) past)) (positions_len (length m.actors) past) ∙ ends_among m past (length m.actors) (omega arith) h closed

-- while no attempt is open, only the ends of the work's nap and of all sleeps are pending
pub closed_time : (m : Machine) (past : List Entry) → JournalPart m past → maker past ≡ None
    → sooner (naps_until (work past)) (earliest_end (positions (length m.actors) past) (length (positions (length m.actors) past))) ≡ journal_time m past
closed_time m past h closed =
    let side : sleep_of past ≡ None = subst (λ (o : Option Stage). Side o past) (stage_none m past h closed) (at_stage m Side (side_invariant m) past h) in
    let asked : IsAsked m None past = subst (λ (o : Option Stage). IsAsked m o past) (stage_none m past h closed) (at_stage m (IsAsked m) (asked_invariant m) past h) in
    ap₂ sooner (sym (ap (λ b. cond b None (naps_until (work past))) (awake m past h closed))) (ends_pending m past h closed)
    ∙ ap₂ (λ s f. sooner (alarm_at m s) (sooner (deadline_at f) (sooner (pending_nap past) (next_sleep m past (length m.actors))))) (sym side) (sym asked.0)

-- ---- a device

empty_is : (s : PhaseState) → when_empty s ≡ true → s ≡ phase_state.Unprepared
empty_is phase_state.Unprepared h = refl
empty_is _ h = never h

work_idle : (b : Bool) (x y z : PhaseState) → x ≡ phase_state.Unprepared → y ≡ phase_state.Unprepared → z ≡ phase_state.Unprepared → cond b (work_by x y z) Idle ≡ Idle
work_idle true x y z p q r = ap (λ s. work_by s y z) p ∙ (ap (λ s. work_by phase_state.Unprepared s z) q ∙ ap (work_by phase_state.Unprepared phase_state.Unprepared) r)
work_idle false x y z p q r = refl

unprepared : (m : Machine) (past : List Entry) (d : ℕ) (p : Phase) → Down p → JournalPart m past → maker past ≡ None → state_in m past p d ≡ phase_state.Unprepared
unprepared m past d p i h closed =
    let s : DevicePhases m past None = subst (λ (o : Option Stage). DevicePhases m past o) (stage_none m past h closed) (device_phases m past h) in
    sym (at_is m past p d i) ∙ empty_is (at (three m past d) p) ((s.0 d).allowed p i)

-- a device makes nothing while no attempt is open
pub device_rests : (m : Machine) (past : List Entry) (now : EventNow) (d : ℕ) → JournalPart m past → maker past ≡ None → is_made (due m past (actor.Dev d) now) ≡ false
device_rests m past now d h closed =
    ap (λ o. is_made (cond (is_actor (actor.Dev d) o) (attempt_due m past now) (own_due m past (actor.Dev d) now))) closed
    ∙ ap (λ w. is_made (device_due m past now d w))
    (work_idle (is_async_device m d) (state_in m past phase.Suspend d) (state_in m past phase.Late d) (state_in m past phase.Noirq d)
    (unprepared m past d phase.Suspend InSuspend h closed) (unprepared m past d phase.Late InLate h closed) (unprepared m past d phase.Noirq InNoirq h closed))
