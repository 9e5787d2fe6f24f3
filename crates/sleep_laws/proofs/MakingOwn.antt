-- From what is due to what is made, for tasks, the work and asynchronous devices, and for all.
use Rattle.std.proofs.Common.{◌≡◌, ◌+◌, ◌∙◌, ℕ, Bool, true, false, not, ◌==◌, ◌&&◌, ◌||◌, nat_le, nat_lt, List, ◌∷◌, length, Option, Some, None, is_some, is_none, slice_get, cond, inl, inr, ◌⊎◌, refl, sym, ap, subst}
use Rattle.std.proofs.lemmas.Bool.{true≢false}
use Rattle.sleep_base.specs.declared.errno.Errno.{Errno}
use Rattle.sleep_base.specs.declared.errno.Errno.TheVariants.{EINVAL}
use Rattle.sleep_model.specs.declared.entry.Actor.{Actor}
use Rattle.sleep_model.specs.declared.entry.Actor.TheVariants as actor
use Rattle.sleep_model.specs.declared.entry.Entry.{Entry}
use Rattle.sleep_model.specs.declared.entry.Kind.{Kind}
use Rattle.sleep_model.specs.declared.entry.Kind.TheVariants as kind
use Rattle.sleep_model.specs.declared.entry.SkipCause.TheVariants as skip
use Rattle.sleep_model.specs.declared.entry.State.TheVariants.{Mem, Off}
use Rattle.sleep_model.specs.declared.log.Why.TheVariants as why
use Rattle.sleep_model.specs.declared.machine.PlatUndo.TheVariants as undo
use Rattle.sleep_model.specs.declared.entry.Group.TheVariants as group
use Rattle.sleep_model.specs.declared.progress.Stage.{Stage}
use Rattle.sleep_model.specs.declared.progress.Stage.TheVariants as stage
use Rattle.sleep_model.specs.declared.machine.Machine.{Machine}
use Rattle.sleep_model.specs.declared.machine.Op.{Op}
use Rattle.sleep_model.specs.declared.machine.Op.TheVariants as op
use Rattle.sleep_model.specs.declared.machine.Script.{Script}
use Rattle.sleep_model.specs.declared.progress.Due.{Due}
use Rattle.sleep_model.specs.declared.progress.Due.TheVariants.{Makes, Waits, Nothing}
use Rattle.sleep_model.specs.declared.progress.Freezing.{Freezing}
use Rattle.sleep_model.specs.declared.progress.ScriptPosition.{ScriptPosition}
use Rattle.sleep_model.specs.declared.progress.PhaseState.{PhaseState}
use Rattle.sleep_model.specs.declared.progress.PhaseState.TheVariants as state
use Rattle.sleep_model.specs.declared.progress.Work.{Work}
use Rattle.sleep_model.specs.declared.progress.AsyncWork.{AsyncWork}
use Rattle.sleep_model.specs.declared.progress.Work.TheVariants.{Resting, Reading, Saving, Attempting, Looking, Napping, Closing}
use Rattle.sleep_model.specs.declared.progress.AsyncWork.TheVariants.{Idle, Scheduled, Inside}
use Rattle.sleep_model.specs.declared.word.EventNow.{EventNow}
use Rattle.phase_table.specs.declared.phase.Phase.{Phase}
use Rattle.phase_table.specs.declared.phase.Phase.TheVariants as phase
use Rattle.phase_table.specs.Phases.{is_down, mirror, tests_wakeup}
use Rattle.sleep_model.specs.Attempt.{sleeps_now, attempt_due}
use Rattle.sleep_model.specs.Autosleep.{work, work_due, auto_due, may_run, auto_save}
use Rattle.sleep_model.specs.Devices.{phase_failed, is_direct, is_async_device, state_in, waits_for_subordinates, waits_above, async_work, work_by, work_in, after_device, taken, device_due, unless_failed, device_error}
use Rattle.sleep_model.specs.Due.{is_over, due, own_due, script_due}
use Rattle.sleep_model.specs.Freezer.{freezing}
use Rattle.sleep_model.specs.Guard.{in_force, pending}
use Rattle.sleep_model.specs.Legal.{JournalPart, JournalStep}
use Rattle.sleep_model.specs.Links.{link_add_due, link_state_due}
use Rattle.sleep_model.specs.Lock.{holder, is_on}
use Rattle.sleep_model.specs.Marks.{mark_at, raised}
use Rattle.sleep_model.specs.Numbers.{time_of}
use Rattle.sleep_model.specs.EntryClasses.{class_of}
use Rattle.sleep_model.specs.Path.{attempts, maker, is_actor}
use Rattle.sleep_model.specs.Scripts.{entry_steps}
use Rattle.sleep_model.specs.Steps.{position_due, step_due, read_due, count_due, state_due, autosleep_due, slept_due}
use Rattle.sleep_model.specs.Table.{stage_of, stage_after}
use Rattle.sleep_model.specs.Tasks.{is_line, is_user, freezes_at, is_mem, is_off}
use Rattle.sleep_model.specs.Word.{visible}
use Rattle.sleep_laws.proofs.Made.{Made, Comes, AtOnce, PastNotifiers, PastCpus, PastParts, PastPartsUp, PastCpusUp, PastPosts, Down, InSuspend, InLate, InNoirq, Up, InResume, InEarly, InResumeNoirq, StepMade, position_of, MayGo, TaskMade, WorkMade, ScheduledAt, DeviceMade, EntryMade, ByTask, ByWork, ByDevice, ByTime}
use Rattle.sleep_laws.proofs.Making.{OnlyMade, maker_made, stage_proper}

only_if : (P : Kind → Type 0) (b : Bool) (x y : Due) → (b ≡ true → OnlyMade P x) → (b ≡ false → OnlyMade P y) → OnlyMade P (cond b x y)
only_if P true x y f g = f refl
only_if P false x y f g = g refl

only_after : (P : Kind → Type 0) (o : Option ℕ) (x : Due) → (o ≡ None → OnlyMade P x) → OnlyMade P (after_device o x)
only_after P None x f = f refl
only_after P (Some d) x f = tt

-- ---- tasks

read_made : (m : Machine) (past : List Entry) (now : EventNow) (position : ScriptPosition) (asked : Bool) → OnlyMade (StepMade m past now position asked (Some op.Read)) (read_due now position.waits asked)
read_made m past now position asked =
    let P : Kind → Type 0 = StepMade m past now position asked (Some op.Read) in
    only_if P (now.inpr == 0) _ _ (λ e. StepMade.Reads e)
    (λ e. only_if P position.waits _ _ (λ w. only_if P asked _ _ (λ a. StepMade.ReadStops e w a) (λ a. tt)) (λ w. StepMade.ReadWaits e w))

save_made : (m : Machine) (past : List Entry) (now : EventNow) (position : ScriptPosition) (asked : Bool) (count : Option ℕ) (c : ℕ) → holder past ≡ None → is_on past ≡ false → (a b : Bool) → (visible now == c) ≡ a → (now.inpr == 0) ≡ b → OnlyMade (StepMade m past now position asked (Some (op.Save count))) (cond (a && b) (Makes (kind.Saved c)) (Makes (kind.SaveErr c EINVAL)))
save_made m past now position asked count c h o true true e f = StepMade.Saves c count h o e f
save_made m past now position asked count c h o true false e f = StepMade.SavesNot c count h o (rw (e, f) refl)
save_made m past now position asked count c h o false b e f = StepMade.SavesNot c count h o (rw e refl)

count_made : (m : Machine) (past : List Entry) (now : EventNow) (position : ScriptPosition) (asked : Bool) (count : Option ℕ) (c : ℕ) (h : Option Actor) → holder past ≡ h → OnlyMade (StepMade m past now position asked (Some (op.Save count))) (count_due (is_some h) (is_on past) position.waits asked now c)
count_made m past now position asked count c (Some x) h =
    let P : Kind → Type 0 = StepMade m past now position asked (Some (op.Save count)) in
    only_if P position.waits _ _ (λ w. only_if P asked _ _ (λ a. StepMade.SaveStops c count w a) (λ a. tt)) (λ w. StepMade.SaveWaits c count w)
count_made m past now position asked count c None h =
    let P : Kind → Type 0 = StepMade m past now position asked (Some (op.Save count)) in
    only_if P (is_on past) _ _ (λ o. StepMade.SaveBusy c count h o) (λ o. save_made m past now position asked count c h o (visible now == c) (now.inpr == 0) refl refl)

state_made : (m : Machine) (past : List Entry) (now : EventNow) (position : ScriptPosition) (asked : Bool) (text : List ℕ) (if_saved : Bool) (h : Option Actor) → holder past ≡ h → OnlyMade (StepMade m past now position asked (Some (op.State text if_saved))) (state_due (is_some h) (is_on past) position.waits asked (is_mem text) (kind.Attempt (attempts past + 1) (in_force past)))
state_made m past now position asked text if_saved (Some x) h =
    let P : Kind → Type 0 = StepMade m past now position asked (Some (op.State text if_saved)) in
    only_if P position.waits _ _ (λ w. only_if P asked _ _ (λ a. StepMade.StateStops text if_saved w a) (λ a. tt)) (λ w. StepMade.StateWaits text if_saved w)
state_made m past now position asked text if_saved None h =
    let P : Kind → Type 0 = StepMade m past now position asked (Some (op.State text if_saved)) in
    only_if P (is_on past) _ _ (λ o. StepMade.StateBusy text if_saved h o)
    (λ o. only_if P (is_mem text) _ _ (λ t. StepMade.Attempts text if_saved h o) (λ t. StepMade.StateBad text if_saved h o))

unsaved_made : (m : Machine) (past : List Entry) (now : EventNow) (position : ScriptPosition) (asked : Bool) (text : List ℕ) (if_saved : Bool) (i b : Bool) → position.saved ≡ b → (next : Due) → OnlyMade (StepMade m past now position asked (Some (op.State text if_saved))) next → OnlyMade (StepMade m past now position asked (Some (op.State text if_saved))) (cond (i && not b) (Makes kind.StateUnsaved) next)
unsaved_made m past now position asked text if_saved true false e next h = StepMade.Unsaved text if_saved e
unsaved_made m past now position asked text if_saved true true e next h = h
unsaved_made m past now position asked text if_saved false b e next h = h

autosleep_made : (m : Machine) (past : List Entry) (now : EventNow) (position : ScriptPosition) (asked : Bool) (text : List ℕ) (h : Option Actor) → holder past ≡ h → OnlyMade (StepMade m past now position asked (Some (op.Autosleep text))) (autosleep_due (is_some h) position.waits (is_mem text) (is_off text))
autosleep_made m past now position asked text h e =
    let P : Kind → Type 0 = StepMade m past now position asked (Some (op.Autosleep text)) in
    only_if P (is_mem text || is_off text) _ _ (λ t. only_if P position.waits _ _ (λ w. StepMade.AutoEnds text w) (λ w. by_holder h e w)) (λ t. StepMade.AutoBad text)
  where
    by_holder : (o : Option Actor) → holder past ≡ o → position.waits ≡ false → OnlyMade (StepMade m past now position asked (Some (op.Autosleep text))) (cond (is_some o) (Waits why.LockHeld) (Makes (kind.AutoSet (cond (is_mem text) Mem Off))))
    by_holder (Some x) e w = tt
    by_holder None e w = StepMade.AutoSets text (cond (is_mem text) Mem Off) w e

slept_made : (P : Kind → Type 0) (until : Option ℕ) (time : ℕ) → ((u : ℕ) → until ≡ Some u → P kind.Slept) → OnlyMade P (slept_due until time)
slept_made P None time f = tt
slept_made P (Some u) time f = only_if P (nat_le u time) _ _ (λ e. f u refl) (λ e. tt)

step_made : (m : Machine) (past : List Entry) (now : EventNow) (position : ScriptPosition) (asked : Bool) (o : Option Op) → OnlyMade (StepMade m past now position asked o) (step_due m past now position asked o)
step_made m past now position asked None = StepMade.Exits
step_made m past now position asked (Some op.Read) = read_made m past now position asked
step_made m past now position asked (Some (op.Save count)) = count_made m past now position asked count _ (holder past) refl
step_made m past now position asked (Some (op.State text if_saved)) = unsaved_made m past now position asked text if_saved if_saved position.saved refl _ (state_made m past now position asked text if_saved (holder past) refl)
step_made m past now position asked (Some (op.Autosleep text)) = autosleep_made m past now position asked text (holder past) refl
step_made m past now position asked (Some (op.Sleep ms)) =
    let P : Kind → Type 0 = StepMade m past now position asked (Some (op.Sleep ms)) in
    only_if P position.waits _ _ (λ w. slept_made P position.until (time_of past) (λ u e. StepMade.Slept ms u w e)) (λ w. StepMade.Sleeps ms (time_of past + ms) w)
step_made m past now position asked (Some (op.SleepD ms)) =
    let P : Kind → Type 0 = StepMade m past now position asked (Some (op.SleepD ms)) in
    only_if P position.waits _ _ (λ w. slept_made P position.until (time_of past) (λ u e. StepMade.SleptD ms u w e)) (λ w. StepMade.SleepsD ms (time_of past + ms) w)
step_made m past now position asked (Some op.FreezePoint) = StepMade.Passes
step_made m past now position asked (Some (op.Post mark)) = StepMade.Posts mark
step_made m past now position asked (Some (op.Wait mark)) = only_if (StepMade m past now position asked (Some (op.Wait mark))) (nat_lt 0 (mark_at (raised (length m.marks) past) mark)) _ _ (λ e. StepMade.Gets mark) (λ e. tt)
step_made m past now position asked (Some (op.Runtime d to_suspended)) = StepMade.AsksRuntime d to_suspended
step_made m past now position asked (Some (op.Link supplier consumer)) = StepMade.AddsLink supplier consumer (link_add_due m past supplier consumer) refl
step_made m past now position asked (Some (op.LinkState supplier consumer active)) = StepMade.SetsLink supplier consumer active (link_state_due m past supplier consumer) refl
step_made m past now position asked (Some (op.Awake s)) = tt
step_made m past now position asked (Some (op.Relax s)) = tt
step_made m past now position asked (Some (op.Event s ms hard)) = tt

task_made : (m : Machine) (past : List Entry) (now : EventNow) (i : ℕ) → OnlyMade (TaskMade m past now i) (script_due m past now i)
task_made m past now i = by_script (slice_get m.actors i) refl
  where
    P : Kind → Type 0
    P = TaskMade m past now i

    f : Freezing
    f = freezing m i past

    by_step : (s : Script) → MayGo m past i s → (d : Due) → OnlyMade (StepMade m past now (position_of m past i) (freezing m i past).asked (slice_get (entry_steps s) (position_of m past i).done)) d → OnlyMade (TaskMade m past now i) d
    by_step s go (Makes k) h = TaskMade.Steps s k (slice_get (entry_steps s) (position_of m past i).done) go refl h
    by_step s go (Waits w) h = tt
    by_step s go Nothing h = tt

    by_asked : (s : Script) → MayGo m past i s → (a b : Bool) → (freezing m i past).asked ≡ a → (d : Due) → OnlyMade (TaskMade m past now i) d → OnlyMade (TaskMade m past now i) (cond (a && b) (Makes kind.Frozen) d)
    by_asked s go true true e d h = TaskMade.Freezes s go e
    by_asked s go true false e d h = h
    by_asked s go false b e d h = h

    by_script : (o : Option Script) → slice_get m.actors i ≡ o → OnlyMade (TaskMade m past now i) (position_due m past now (freezing m i past) o (position_of m past i))
    by_script None e = tt
    by_script (Some s) e =
        only_if (TaskMade m past now i) (position_of m past i).exited _ _ (λ x. tt)
        (λ x. only_if (TaskMade m past now i) (freezing m i past).frozen _ _ (λ y. tt)
        (λ y. only_if (TaskMade m past now i) (sleeps_now past && not (is_line s.kind)) _ _ (λ z. tt)
        (λ z.
        let go : MayGo m past i s = record { script = e; there = x; thawed = y; awake = z } in
        by_asked s go (freezing m i past).asked (freezes_at (is_user s.kind) (position_of m past i).waits (slice_get (entry_steps s) (position_of m past i).done)) refl _
        (by_step s go _ (step_made m past now (position_of m past i) (freezing m i past).asked (slice_get (entry_steps s) (position_of m past i).done))))))

-- ---- the work

auto_save_made : (m : Machine) (past : List Entry) (now : EventNow) (c : ℕ) → holder past ≡ None → (a b : Bool) → (visible now == c) ≡ a → (now.inpr == 0) ≡ b → WorkMade m past now (Saving c) (cond (a && b) (kind.AutoSaved c) (kind.AutoUnsaved c))
auto_save_made m past now c h true true e f = WorkMade.Saves c h e f
auto_save_made m past now c h true false e f = WorkMade.SavesNot c h (rw (e, f) refl)
auto_save_made m past now c h false b e f = WorkMade.SavesNot c h (rw e refl)

work_made : (m : Machine) (past : List Entry) (now : EventNow) (w : Work) → OnlyMade (WorkMade m past now w) (work_due m past now w)
work_made m past now Resting = only_if (WorkMade m past now Resting) (may_run m past) _ _ (λ e. WorkMade.Runs) (λ e. tt)
work_made m past now Reading = only_if (WorkMade m past now Reading) (now.inpr == 0) _ _ (λ e. WorkMade.Reads e) (λ e. tt)
work_made m past now (Saving c) = by_holder (holder past) refl
  where
    by_holder : (h : Option Actor) → holder past ≡ h → OnlyMade (WorkMade m past now (Saving c)) (cond (is_none h) (Makes (auto_save now c)) (Waits why.LockHeld))
    by_holder None e = auto_save_made m past now c e (visible now == c) (now.inpr == 0) refl refl
    by_holder (Some x) e = tt
work_made m past now (Attempting c) = only_if (WorkMade m past now (Attempting c)) (is_on past) _ _ (λ e. WorkMade.Attempts c e) (λ e. WorkMade.Stops c e)
work_made m past now (Looking c) = WorkMade.Looks c
work_made m past now (Napping None) = WorkMade.Naps
work_made m past now (Napping (Some until)) = only_if (WorkMade m past now (Napping (Some until))) (nat_le until (time_of past)) _ _ (λ e. WorkMade.Slept until) (λ e. tt)
work_made m past now Closing = only_if (WorkMade m past now Closing) (is_on past) _ _ (λ e. WorkMade.Again e) (λ e. WorkMade.Closes e)

auto_made : (m : Machine) (past : List Entry) (now : EventNow) → is_actor actor.Auto (maker past) ≡ false → OnlyMade (EntryMade m past now actor.Auto) (auto_due m past now (sleeps_now past) (is_over m past))
auto_made m past now a =
    only_if (EntryMade m past now actor.Auto) (sleeps_now past) _ _ (λ x. tt)
    (λ x. only_if (EntryMade m past now actor.Auto) (is_over m past) _ _ (λ y. tt) (λ y. by_work x y (work_due m past now (work past)) (work_made m past now (work past))))
  where
    by_work : sleeps_now past ≡ false → is_over m past ≡ false → (d : Due) → OnlyMade (WorkMade m past now (work past)) d → OnlyMade (EntryMade m past now actor.Auto) d
    by_work x y (Makes k) h = ByWork (work past) k a x y refl h
    by_work x y (Waits w) h = tt
    by_work x y Nothing h = tt

-- ---- an asynchronous device

-- a device has work of its own
abbrev HasWork : AsyncWork → Type 0
HasWork Idle = ⊥
HasWork _ = Unit {0}

-- what the work of a device says of its state
abbrev WorkOfState : (Phase → PhaseState) → AsyncWork → Type 0
WorkOfState on Idle = Unit {0}
WorkOfState on (Scheduled p) = (Down p × (on p ≡ state.Scheduled)) ⊎ (Up p × (on (mirror p) ≡ state.Rescheduled))
WorkOfState on (Inside p) = (Down p × (on p ≡ state.Suspending)) ⊎ (Up p × (on (mirror p) ≡ state.Resuming))

work_in_platform_up : (on : Phase → PhaseState) (p : Phase) → Down p → Up (mirror p) → mirror (mirror p) ≡ p → (s : PhaseState) (other : AsyncWork) → on p ≡ s → WorkOfState on other → WorkOfState on (work_in p s other)
work_in_platform_up on p d u r state.Scheduled other e h = inl (d, e)
work_in_platform_up on p d u r state.Suspending other e h = inl (d, e)
work_in_platform_up on p d u r state.Rescheduled other e h = inr (u, ap on r ∙ e)
work_in_platform_up on p d u r state.Resuming other e h = inr (u, ap on r ∙ e)
work_in_platform_up on p d u r _ other e h = h

work_by_tells : (on : Phase → PhaseState) → WorkOfState on (work_by (on phase.Suspend) (on phase.Late) (on phase.Noirq))
work_by_tells on =
    work_in_platform_up on phase.Suspend InSuspend InResume refl (on phase.Suspend) _ refl
    (work_in_platform_up on phase.Late InLate InEarly refl (on phase.Late) _ refl
    (work_in_platform_up on phase.Noirq InNoirq InResumeNoirq refl (on phase.Noirq) Idle refl tt))

down_of : (p : Phase) → Down p → is_down p ≡ true
down_of _ InSuspend = refl
down_of _ InLate = refl
down_of _ InNoirq = refl

up_of : (p : Phase) → Up p → is_down p ≡ false
up_of _ InResume = refl
up_of _ InEarly = refl
up_of _ InResumeNoirq = refl

scheduled_made : (m : Machine) (past : List Entry) (now : EventNow) (d : ℕ) (p : Phase) → Down p → ScheduledAt m past p d → (r : Option Errno) → phase_failed past ≡ r → (t b a : Bool) → tests_wakeup p ≡ t → pending past now ≡ b → is_direct m past p d ≡ a → DeviceMade m past now d (unless_failed r p d (cond (t && b) (kind.Skip p d skip.Pending) (cond a (kind.Skip p d skip.Direct) (kind.Begin p d))))
scheduled_made m past now d p down at (Some r) f t b a e g h = DeviceMade.OwnFails p r down at f
scheduled_made m past now d p down at None f true true a e g h = DeviceMade.OwnFinds p down at f e g
scheduled_made m past now d p down at None f true false true e g h = DeviceMade.OwnLeaves p down at f (rw (e, g) refl) h
scheduled_made m past now d p down at None f true false false e g h = DeviceMade.OwnBegins p down at f (rw (e, g) refl) h
scheduled_made m past now d p down at None f false b true e g h = DeviceMade.OwnLeaves p down at f (rw e refl) h
scheduled_made m past now d p down at None f false b false e g h = DeviceMade.OwnBegins p down at f (rw e refl) h

down_scheduled_made : (m : Machine) (past : List Entry) (now : EventNow) (d : ℕ) (p : Phase) (b : Bool) → is_down p ≡ b → is_async_device m d ≡ true → async_work m past d ≡ Scheduled p → WorkOfState (λ q. state_in m past q d) (Scheduled p) → OnlyMade (DeviceMade m past now d) (cond b (after_device (waits_for_subordinates m past p d) (Makes (unless_failed (phase_failed past) p d (taken m past now p d)))) (after_device (waits_above m past (mirror p) d) (Makes (kind.Begin p d))))
down_scheduled_made m past now d p true e a w (inl h) =
    only_after (DeviceMade m past now d) (waits_for_subordinates m past p d) _ (λ o. scheduled_made m past now d p h.0 (record { beside = a; work = w; states = h.1; waits = o }) (phase_failed past) refl (tests_wakeup p) (pending past now) (is_direct m past p d) refl refl refl)
down_scheduled_made m past now d p false e a w (inr h) = only_after (DeviceMade m past now d) (waits_above m past (mirror p) d) _ (λ o. DeviceMade.OwnRises p h.0 a w h.1 o)
down_scheduled_made m past now d p true e a w (inr h) = absurd (true≢false (sym e ∙ up_of p h.0))
down_scheduled_made m past now d p false e a w (inl h) = absurd (true≢false (sym (down_of p h.0) ∙ e))

inside_made : (m : Machine) (past : List Entry) (now : EventNow) (d : ℕ) (p : Phase) (r : Option Errno) → is_async_device m d ≡ true → async_work m past d ≡ Inside p → WorkOfState (λ q. state_in m past q d) (Inside p) → DeviceMade m past now d (kind.End p d r)
inside_made m past now d p r a w (inl h) = DeviceMade.OwnEnds p r h.0 a w h.1
inside_made m past now d p r a w (inr h) = DeviceMade.OwnRose p r h.0 a w h.1

-- an asynchronous device has the work that its states say
async_tells : (m : Machine) (past : List Entry) (d : ℕ) (b : Bool) → is_async_device m d ≡ b → (w : AsyncWork) → async_work m past d ≡ w → (w ≡ Idle) ⊎ ((b ≡ true) × WorkOfState (λ q. state_in m past q d) w)
async_tells m past d false e w f = inl (sym f ∙ rw e refl)
async_tells m past d true e w f = inr (refl, subst (WorkOfState (λ q. state_in m past q d)) (sym (rw e refl) ∙ f) (work_by_tells (λ q. state_in m past q d)))

scheduled≢idle : (p : Phase) → Scheduled p ≡ Idle → ⊥
scheduled≢idle p e = subst HasWork e tt

inside≢idle : (p : Phase) → Inside p ≡ Idle → ⊥
inside≢idle p e = subst HasWork e tt

device_made : (m : Machine) (past : List Entry) (now : EventNow) (d : ℕ) (w : AsyncWork) → async_work m past d ≡ w → (w ≡ Idle) ⊎ ((is_async_device m d ≡ true) × WorkOfState (λ q. state_in m past q d) w) → OnlyMade (DeviceMade m past now d) (device_due m past now d w)
device_made m past now d Idle f h = tt
device_made m past now d (Scheduled p) f (inl e) = absurd (scheduled≢idle p e)
device_made m past now d (Scheduled p) f (inr h) = down_scheduled_made m past now d p (is_down p) refl h.0 f h.1
device_made m past now d (Inside p) f (inl e) = absurd (inside≢idle p e)
device_made m past now d (Inside p) f (inr h) = inside_made m past now d p (device_error m past p d) h.0 f h.1

-- ---- all

under : (m : Machine) (past : List Entry) (now : EventNow) (who : Actor) (P : Kind → Type 0) (d : Due) → ((k : Kind) → P k → EntryMade m past now who k) → OnlyMade P d → OnlyMade (EntryMade m past now who) d
under m past now who P (Makes k) f h = f k h
under m past now who P (Waits w) f h = tt
under m past now who P Nothing f h = tt

own_made : (m : Machine) (past : List Entry) (now : EventNow) (who : Actor) → is_actor who (maker past) ≡ false → OnlyMade (EntryMade m past now who) (own_due m past who now)
own_made m past now (actor.Script i) a = under m past now (actor.Script i) (TaskMade m past now i) (script_due m past now i) (λ k h. ByTask i k a h) (task_made m past now i)
own_made m past now actor.Auto a = auto_made m past now a
own_made m past now (actor.Dev d) a = under m past now (actor.Dev d) (DeviceMade m past now d) (device_due m past now d (async_work m past d)) (λ k h. ByDevice d k a h) (device_made m past now d (async_work m past d) refl (async_tells m past d (is_async_device m d) refl (async_work m past d) refl))
own_made m past now (actor.Timer s) a = tt
own_made m past now actor.Time a = tt

-- what is due is made by one of the families
pub due_made : (m : Machine) (past : List Entry) (now : EventNow) (who : Actor) → OnlyMade (EntryMade m past now who) (due m past who now)
due_made m past now who = by_maker (is_actor who (maker past)) refl
  where
    by_maker : (b : Bool) → is_actor who (maker past) ≡ b → OnlyMade (EntryMade m past now who) (cond b (attempt_due m past now) (own_due m past who now))
    by_maker true a = maker_made m past now who a (stage_of past) refl (stage_proper past)
    by_maker false a = own_made m past now who a

-- what is due of somebody is made by one of the families
pub made : (m : Machine) (past : List Entry) (now : EventNow) (who : Actor) (k : Kind) → due m past who now ≡ Makes k → EntryMade m past now who k
made m past now who k e = subst (OnlyMade (EntryMade m past now who)) e (due_made m past now who)

step_of : (m : Machine) (past : List Entry) (time : ℕ) (now : EventNow) (who : Actor) (k : Kind) → JournalStep m past (record { time = time; now = now; actor = who; kind = k }) (class_of k) → EntryMade m past now who k
step_of m past time now who (kind.Awake s) h = absurd h
step_of m past time now who (kind.Relax s) h = absurd h
step_of m past time now who (kind.Event s ms hard) h = absurd h
step_of m past time now who (kind.Expire s) h = absurd h
step_of m past time now who (kind.Start s) h = absurd h
step_of m past time now who (kind.Finish s) h = absurd h
step_of m past time now who (kind.Hard s) h = absurd h
step_of m past time now who kind.Jump h = subst (λ (x : Actor). EntryMade m past now x kind.Jump) (sym h.0) ByTime
step_of m past time now who k h = made m past now who k h.0

-- an entry of the journal is made by one of the families
pub entry_made : (m : Machine) (past : List Entry) (e : Entry) → JournalPart m (e ∷ past) → EntryMade m past e.now e.actor e.kind
entry_made m past e h = step_of m past e.time e.now e.actor e.kind h.0

-- ---- a step of the maker's

-- the stage after what the maker makes is the same from where it was and from where it has come to
pub stage_comes : (m : Machine) (past : List Entry) (now : EventNow) (here there : Stage) (k : Kind) → Comes m past here there → Made m past now there k → stage_after k (Some here) ≡ stage_after k (Some there)
stage_comes m past now _ _ k (AtOnce here) h = refl
stage_comes m past now _ _ k (PastNotifiers e) h = past_freeze m past now k h
  where
    past_freeze : (m : Machine) (past : List Entry) (now : EventNow) (k : Kind) → Made m past now (stage.Freezes group.User) k → stage_after k (Some stage.Notifies) ≡ stage_after k (Some (stage.Freezes group.User))
    past_freeze m past now _ (Made.FreezesUser e) = refl
    past_freeze m past now _ (Made.FrozeUser s e f) = refl
    past_freeze m past now _ (Made.UserTimesOut s n x e) = refl
    past_freeze m past now _ (Made.UserWakes s n x e f) = refl
stage_comes m past now _ _ k (PastCpus e) h = past_cpus m past now k h
  where
    past_cpus : (m : Machine) (past : List Entry) (now : EventNow) (k : Kind) → Made m past now stage.StopsIrqs k → stage_after k (Some stage.StopsCpus) ≡ stage_after k (Some stage.StopsIrqs)
    past_cpus m past now _ Made.StopsIrqs = refl
stage_comes m past now _ _ k (PastParts e) h = past_parts m past now k h
  where
    past_parts : (m : Machine) (past : List Entry) (now : EventNow) (k : Kind) → Made m past now stage.Enters k → stage_after k (Some stage.StopsSyscore) ≡ stage_after k (Some stage.Enters)
    past_parts m past now _ (Made.Enters e f) = refl
    past_parts m past now _ (Made.EntersNot e f) = refl
    past_parts m past now _ (Made.Wakes s b e) = refl
stage_comes m past now _ _ k (PastPartsUp e) h = past_up m past now k h
  where
    past_up : (m : Machine) (past : List Entry) (now : EventNow) (k : Kind) → Made m past now stage.StartsIrqs k → stage_after k (Some stage.StartsSyscore) ≡ stage_after k (Some stage.StartsIrqs)
    past_up m past now _ Made.StartsIrqs = refl
stage_comes m past now _ _ k (PastCpusUp e) h = past_cpus_up m past now k h
  where
    past_cpus_up : (m : Machine) (past : List Entry) (now : EventNow) (k : Kind) → Made m past now (stage.PlatformUndo undo.Wake) k → stage_after k (Some stage.StartsCpus) ≡ stage_after k (Some (stage.PlatformUndo undo.Wake))
    past_cpus_up m past now _ Made.PlatformWakes = refl
stage_comes m past now _ _ k (PastPosts e) h = past_posts m past now k h
  where
    past_posts : (m : Machine) (past : List Entry) (now : EventNow) (k : Kind) → Made m past now stage.Ends k → stage_after k (Some stage.NotifiesPost) ≡ stage_after k (Some stage.Ends)
    past_posts m past now _ Made.Ends = refl

-- what holds at the stage under way, preserved by coming to the stage at which the entry is made, and by the entry, holds after it
pub by_maker : (m : Machine) (past : List Entry) (now : EventNow) (k : Kind) (here there : Stage) (Before After : Option Stage → Type 0) → stage_of past ≡ Some here → Comes m past here there → Made m past now there k → (Before (Some here) → Before (Some there)) → (Before (Some there) → After (stage_after k (Some there))) → Before (stage_of past) → After (stage_after k (stage_of past))
by_maker m past now k here there Before After e c h comes makes b =
    let at : Before (Some here) = subst Before e b in
    let done : After (stage_after k (Some there)) = makes (comes at) in
    subst (λ (o : Option Stage). After (stage_after k o)) (sym e) (subst After (sym (stage_comes m past now here there k c h)) done)
