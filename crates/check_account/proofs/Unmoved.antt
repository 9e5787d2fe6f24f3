-- What an entry leaves as it was.
use Rattle.std.proofs.Common.{◌≡◌, ◌∙◌, ℕ, zero, suc, Bool, true, false, ◌||◌, if◌then◌else◌, List, [], ◌∷◌, Some, slice_set, refl, sym, ap, ap₂}
use Rattle.std.specs.Prelude.{slice_index_or}
use Rattle.phase_table.specs.declared.phase.Phase.{Phase}
use Rattle.phase_table.specs.Phases.{is_phase, mirror}
use Rattle.sleep_model.specs.declared.entry.Actor.{Actor}
use Rattle.sleep_model.specs.declared.entry.Actor.TheVariants as actor
use Rattle.sleep_model.specs.declared.entry.Entry.{Entry}
use Rattle.sleep_model.specs.declared.entry.Kind.{Kind}
use Rattle.sleep_model.specs.declared.entry.Kind.TheVariants as kind
use Rattle.sleep_model.specs.declared.machine.Script.{Script}
use Rattle.sleep_model.specs.declared.progress.ScriptPosition.{ScriptPosition}
use Rattle.sleep_model.specs.declared.progress.PhaseState.{PhaseState}
use Rattle.sleep_model.specs.declared.progress.PhaseState.TheVariants as state
use Rattle.sleep_model.specs.declared.progress.Work.{Work}
use Rattle.sleep_model.specs.declared.word.EventNow.{EventNow}
use Rattle.sleep_model.specs.Autosleep.{work_after, work_step}
use Rattle.sleep_model.specs.Marks.{marks_after}
use Rattle.sleep_model.specs.Devices.{callback_after, is_device, own_error_after, phase_failed_after}
use Rattle.sleep_model.specs.Runtime.{disabled_by_late_after}
use Rattle.sleep_model.specs.Positions.{PositionEffect, Stays, first_position, position_after, position_at, position_effect, positions_after}
use Rattle.sleep_model.specs.PhaseStates.{ended_by, skipped_for, phase_state_after, state_at, phase_states_after}
use Rattle.check_account.specs.Accounts.{AttemptState, DeviceState, TaskState, attempt_after, devices_after, is_of_device, is_of_task, tasks_after}
use Rattle.check_account.specs.PairStates.{may_move}

put_same : {A : Type 0} (xs : List A) (i : ℕ) (other : A) → slice_set xs i (slice_index_or xs i other) ≡ xs
put_same [] i other = refl
put_same (x ∷ xs) zero other = refl
put_same (x ∷ xs) (suc i) other = ap (λ ys. x ∷ ys) (put_same xs i other)

-- ---- the devices

neither : (a b : Bool) (down up before : PhaseState) → (a || b) ≡ false → (if a then down else if b then up else before) ≡ before
neither true b down up before h = absurd (cc)
neither false true down up before h = absurd (cc)
neither false false down up before h = refl

unmoved : (p : Phase) (k : Kind) (before : PhaseState) → may_move p k ≡ false → phase_state_after p k before ≡ before
unmoved p (kind.Prepare d r) before h = absurd (cc)
unmoved p (kind.Complete d) before h = absurd (cc)
unmoved p (kind.Schedule q d) before h = neither (is_phase q p) (is_phase q (mirror p)) state.Scheduled state.Rescheduled before h
unmoved p (kind.Begin q d) before h = neither (is_phase q p) (is_phase q (mirror p)) state.Suspending state.Resuming before h
unmoved p (kind.End q d r) before h = neither (is_phase q p) (is_phase q (mirror p)) (ended_by r) state.Resumed before h
unmoved p (kind.Skip q d cause) before h = neither (is_phase q p) (is_phase q (mirror p)) (skipped_for cause) before before h
unmoved p _ before h = refl

-- a device that an entry may not move keeps its state
pub states_stay : (p : Phase) (k : Kind) (d : ℕ) (xs : List PhaseState) → may_move p k ≡ false → xs ≡ phase_states_after p k (Some d) xs
states_stay p k d xs h = sym (ap (λ (s : PhaseState). slice_set xs d s) (unmoved p k (state_at xs d) h) ∙ put_same xs d state.Unprepared)

-- ---- the scripts

stays_for_device : (k : Kind) → is_of_device k ≡ true → position_effect k ≡ Stays
stays_for_device (kind.Prepare d r) h = refl
stays_for_device (kind.Complete d) h = refl
stays_for_device (kind.Schedule p d) h = refl
stays_for_device (kind.Begin p d) h = refl
stays_for_device (kind.End p d r) h = refl
stays_for_device _ h = absurd (cc)

by_part : (who : Actor) (part : PositionEffect) (xs : List ScriptPosition) → part ≡ Stays → xs ≡ positions_after who part xs
by_part (actor.Script i) part xs h = sym (ap (λ (p : PositionEffect). slice_set xs i (position_after p (position_at xs i))) h ∙ put_same xs i first_position)
by_part _ part xs h = refl

-- an entry of a device leaves each script's position as it is
positions_stay : (who : Actor) (k : Kind) (xs : List ScriptPosition) → is_of_device k ≡ true → xs ≡ positions_after who (position_effect k) xs
positions_stay who k xs h = by_part who (position_effect k) xs (stays_for_device k h)

step_stays : (k : Kind) (before : Work) → is_of_device k ≡ true → before ≡ work_step k before
step_stays (kind.Prepare d r) before h = refl
step_stays (kind.Complete d) before h = refl
step_stays (kind.Schedule p d) before h = refl
step_stays (kind.Begin p d) before h = refl
step_stays (kind.End p d r) before h = refl
step_stays _ before h = absurd (cc)

work_stays : (who : Actor) (k : Kind) (before : Work) → is_of_device k ≡ true → before ≡ work_after who k before
work_stays actor.Auto k before h = step_stays k before h
work_stays _ k before h = refl

tasks_stay_at : (scripts : List Script) (time : ℕ) (now : EventNow) (who : Actor) (k : Kind) (a : TaskState) → is_of_device k ≡ true →
    a ≡ tasks_after scripts (record { time = time; now = now; actor = who; kind = k }) a
tasks_stay_at scripts time now who (kind.Prepare d r) a h = ap₂ (λ (s : List ScriptPosition) (w : Work). record a { positions = s; work = w }) (positions_stay who (kind.Prepare d r) a.positions h) (work_stays who (kind.Prepare d r) a.work h)
tasks_stay_at scripts time now who (kind.Complete d) a h = ap₂ (λ (s : List ScriptPosition) (w : Work). record a { positions = s; work = w }) (positions_stay who (kind.Complete d) a.positions h) (work_stays who (kind.Complete d) a.work h)
tasks_stay_at scripts time now who (kind.Schedule p d) a h = ap₂ (λ (s : List ScriptPosition) (w : Work). record a { positions = s; work = w }) (positions_stay who (kind.Schedule p d) a.positions h) (work_stays who (kind.Schedule p d) a.work h)
tasks_stay_at scripts time now who (kind.Begin p d) a h = ap₂ (λ (s : List ScriptPosition) (w : Work). record a { positions = s; work = w }) (positions_stay who (kind.Begin p d) a.positions h) (work_stays who (kind.Begin p d) a.work h)
tasks_stay_at scripts time now who (kind.End p d r) a h = ap₂ (λ (s : List ScriptPosition) (w : Work). record a { positions = s; work = w }) (positions_stay who (kind.End p d r) a.positions h) (work_stays who (kind.End p d r) a.work h)
tasks_stay_at scripts time now who _ a h = absurd (cc)

-- an entry of a device leaves the tasks as they were
pub tasks_stay : (scripts : List Script) (e : Entry) (a : TaskState) → is_of_device e.kind ≡ true → a ≡ tasks_after scripts e a
tasks_stay scripts e a h = tasks_stay_at scripts e.time e.now e.actor e.kind a h

-- ---- an entry of a task

attempt_unmoved_at : (time : ℕ) (now : EventNow) (who : Actor) (k : Kind) (a : AttemptState) → is_of_task k ≡ true →
    a ≡ attempt_after (record { time = time; now = now; actor = who; kind = k }) a
attempt_unmoved_at time now who (kind.Sleep until) a h = refl
attempt_unmoved_at time now who (kind.SleepD until) a h = refl
attempt_unmoved_at time now who kind.Slept a h = refl
attempt_unmoved_at time now who kind.Pass a h = refl
attempt_unmoved_at time now who (kind.Post mark) a h = refl
attempt_unmoved_at time now who (kind.Got mark) a h = refl
attempt_unmoved_at time now who _ a h = absurd (cc)

-- an entry of a task leaves the open attempt as it was
pub attempt_unmoved : (e : Entry) (a : AttemptState) → is_of_task e.kind ≡ true → a ≡ attempt_after e a
attempt_unmoved e a h = attempt_unmoved_at e.time e.now e.actor e.kind a h

-- an entry of a task leaves the devices as they were
pub devices_unmoved : (k : Kind) (d : DeviceState) → is_of_task k ≡ true → d ≡ devices_after k d
devices_unmoved (kind.Sleep until) d h = refl
devices_unmoved (kind.SleepD until) d h = refl
devices_unmoved kind.Slept d h = refl
devices_unmoved kind.Pass d h = refl
devices_unmoved (kind.Post mark) d h = refl
devices_unmoved (kind.Got mark) d h = refl
devices_unmoved _ d h = absurd (cc)

tasks_moved_at : (scripts : List Script) (time : ℕ) (now : EventNow) (who : Actor) (k : Kind) (a : TaskState) → is_of_task k ≡ true →
    record a {
      positions = positions_after who (position_effect k) a.positions;
      raised = marks_after k a.raised;
      work = work_after who k a.work;
    } ≡ tasks_after scripts (record { time = time; now = now; actor = who; kind = k }) a
tasks_moved_at scripts time now who (kind.Sleep until) a h = refl
tasks_moved_at scripts time now who (kind.SleepD until) a h = refl
tasks_moved_at scripts time now who kind.Slept a h = refl
tasks_moved_at scripts time now who kind.Pass a h = refl
tasks_moved_at scripts time now who (kind.Post mark) a h = refl
tasks_moved_at scripts time now who (kind.Got mark) a h = refl
tasks_moved_at scripts time now who _ a h = absurd (cc)

-- an entry of a task moves only three fields of the tasks
pub tasks_moved : (scripts : List Script) (e : Entry) (a : TaskState) → is_of_task e.kind ≡ true →
    record a {
      positions = positions_after e.actor (position_effect e.kind) a.positions;
      raised = marks_after e.kind a.raised;
      work = work_after e.actor e.kind a.work;
    } ≡ tasks_after scripts e a
tasks_moved scripts e a h = tasks_moved_at scripts e.time e.now e.actor e.kind a h

-- ---- the open attempt

stays_at : (time : ℕ) (now : EventNow) (who : Actor) (k : Kind) (a : AttemptState) → is_of_device k ≡ true →
    record a {
      callback = callback_after k (is_device who) a.callback;
      phase_failed = phase_failed_after k a.phase_failed;
      own_error = own_error_after k (is_device who) a.own_error;
      disabled_by_late = disabled_by_late_after k a.disabled_by_late;
    } ≡ attempt_after (record { time = time; now = now; actor = who; kind = k }) a
stays_at time now who (kind.Prepare d r) a h = refl
stays_at time now who (kind.Complete d) a h = refl
stays_at time now who (kind.Schedule p d) a h = refl
stays_at time now who (kind.Begin p d) a h = refl
stays_at time now who (kind.End p d r) a h = refl
stays_at time now who _ a h = absurd (cc)

-- an entry of a device moves only four fields
pub attempt_stays : (e : Entry) (a : AttemptState) → is_of_device e.kind ≡ true →
    record a {
      callback = callback_after e.kind (is_device e.actor) a.callback;
      phase_failed = phase_failed_after e.kind a.phase_failed;
      own_error = own_error_after e.kind (is_device e.actor) a.own_error;
      disabled_by_late = disabled_by_late_after e.kind a.disabled_by_late;
    } ≡ attempt_after e a
attempt_stays e a h = stays_at e.time e.now e.actor e.kind a h
