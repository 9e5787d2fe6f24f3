-- What a reader believes of a legal log, each law at each entry, from the entries before it.
use Rattle.std.specs.Prelude.{◌≡◌, ◌+◌, ℕ, suc, ℤ, pos, negsuc, Bool, true, false, not, ◌==◌, ◌&&◌, ◌||◌, List, [], ◌∷◌, length, map, replicate, if◌then◌else◌, Option, Some, None, is_none, slice_get}
use Rattle.std.specs.List.{list_all}
use Rattle.sleep_base.specs.declared.errno.Errno.{Errno}
use Rattle.sleep_model.specs.declared.word.EventNow.{EventNow}
use Rattle.sleep_model.specs.declared.word.WordKind.{WordKind}
use Rattle.sleep_model.specs.declared.entry.Actor.{Actor}
use Rattle.sleep_model.specs.declared.entry.Actor.TheVariants as actor
use Rattle.sleep_model.specs.declared.entry.Entry.{Entry}
use Rattle.sleep_model.specs.declared.entry.FrozeEnd.{FrozeEnd}
use Rattle.sleep_model.specs.declared.entry.FrozeEnd.TheVariants as froze
use Rattle.sleep_model.specs.declared.entry.Group.{Group}
use Rattle.sleep_model.specs.declared.entry.Group.TheVariants as group
use Rattle.sleep_model.specs.declared.entry.Kind.{Kind}
use Rattle.sleep_model.specs.declared.entry.Kind.TheVariants as kind
use Rattle.sleep_model.specs.declared.entry.SkipCause.{SkipCause}
use Rattle.sleep_model.specs.declared.entry.SkipCause.TheVariants as skip
use Rattle.sleep_model.specs.declared.machine.Machine.{Machine}
use Rattle.sleep_model.specs.declared.machine.Op.{Op}
use Rattle.sleep_model.specs.declared.machine.Op.TheVariants as op
use Rattle.sleep_model.specs.declared.machine.PlatDo.TheVariants as down
use Rattle.sleep_model.specs.declared.machine.PlatUndo.{PlatUndo}
use Rattle.sleep_model.specs.declared.machine.PlatUndo.TheVariants as undo
use Rattle.sleep_model.specs.declared.machine.Script.{Script}
use Rattle.phase_table.specs.declared.phase.Phase.{Phase}
use Rattle.phase_table.specs.declared.phase.Phase.TheVariants as phase
use Rattle.sleep_model.specs.declared.progress.ScriptPosition.{ScriptPosition}
use Rattle.sleep_model.specs.declared.progress.PhaseState.{PhaseState}
use Rattle.sleep_model.specs.declared.progress.PhaseState.TheVariants as phase_state
use Rattle.sleep_model.specs.Attempt.{failed, sleeps_now}
use Rattle.sleep_model.specs.Autosleep.{Work, Resting, Reading, Saving, Attempting, Looking, Napping, Closing, work}
use Rattle.sleep_model.specs.Devices.{AsyncWork, Idle, Scheduled, Inside, callback, state_in, async_work}
use Rattle.sleep_model.specs.Freezer.{unasked, freezing, freezings, is_in}
use Rattle.sleep_model.specs.Guard.{CountEffect, Finds, count_effect, pending}
use Rattle.sleep_model.specs.Notifiers.{notified_flags, owes_platform, cpus_off, other_cpus, irqs_off, stopped, syscore_steps}
use Rattle.sleep_model.specs.Numbers.{numbers, word_step}
use Rattle.sleep_model.specs.Order.{order, below, above}
use Rattle.sleep_model.specs.Path.{maker, is_same, is_actor}
use Rattle.phase_table.specs.Phases.{is_phase, is_down, is_up, mirror, tests_wakeup}
use Rattle.sleep_model.specs.Scripts.{entry_steps}
use Rattle.sleep_model.specs.Positions.{positions, position_at}
use Rattle.sleep_model.specs.Walk.{is_so}
use Rattle.sleep_model.specs.PhaseStates.{phase_states, is_unprepared, is_ready, is_down_in, is_direct_complete, is_down_or_direct, is_not_up}

-- ---- devices

-- a device begins to go down only if all below it are down in that phase, or were direct-complete (dpm_wait_for_subordinate)
abbrev pub DependentsFirst : Machine → List Entry → Kind → Type 0
DependentsFirst m past (kind.Begin p d) =
    is_down p ≡ true → list_all (λ e. is_down_or_direct (state_in m past p e)) (below m past d) ≡ true
DependentsFirst m past _ = Unit {0}

-- a device begins to come up only if none above it is still down in that phase, or inside a callback (dpm_wait_for_superior)
abbrev pub SuppliersFirst : Machine → List Entry → Kind → Type 0
SuppliersFirst m past (kind.Begin p d) =
    is_up p ≡ true → list_all (λ e. not (is_not_up (state_in m past (mirror p) e))) (above m past d) ≡ true
SuppliersFirst m past _ = Unit {0}

-- ---- what is owed

-- no device is in a phase: none is prepared (dpm_complete)
abbrev pub NoneIsInPhase : Machine → Phase → List Entry → Type 0
NoneIsInPhase m p past = phase_states (length m.devices) p past ≡ replicate (length m.devices) phase_state.Unprepared

-- all that an attempt did is undone (suspend_devices_and_enter, suspend_finish)
pub record NothingOwed (m : Machine) (past : List Entry) : Type 0 where
  pub notifiers : notified_flags m past ≡ replicate (length m.notifiers) false
  pub tasks : freezings m.actors past ≡ map (λ s. unasked) m.actors
  pub begun : owes_platform down.Begin past ≡ false
  pub prepared : owes_platform down.Prepare past ≡ false
  pub prepared_late : owes_platform down.PrepareLate past ≡ false
  pub suspend : NoneIsInPhase m phase.Suspend past
  pub late : NoneIsInPhase m phase.Late past
  pub noirq : NoneIsInPhase m phase.Noirq past
  pub callbacks : callback past ≡ None
  pub cpus : cpus_off m.cpus past ≡ replicate m.cpus false
  pub irqs : irqs_off past ≡ false
  pub syscore : stopped (length m.syscore) past ≡ replicate (length m.syscore) false
  pub awake : sleeps_now past ≡ false

-- once an attempt is over nothing is owed (suspend_devices_and_enter)
abbrev pub Restored : Machine → List Entry → Kind → Type 0
Restored m past (kind.Over n r) = NothingOwed m past
Restored m past _ = Unit {0}

-- a device that may come up: it is down, or down and scheduled (power.is_suspended)
abbrev pub may_come_up : PhaseState → Bool
may_come_up phase_state.Suspended = true
may_come_up phase_state.Rescheduled = true
may_come_up _ = false

-- inside its callback on the way up (dpm_run_callback)
abbrev pub is_resuming : PhaseState → Bool
is_resuming phase_state.Resuming = true
is_resuming _ = false

-- prepared, and neither down nor on its way down or up: in a pair of phases nothing is owed to the device (power.is_suspended)
abbrev pub is_back : PhaseState → Bool
is_back phase_state.Prepared = true
is_back phase_state.Failed = true
is_back phase_state.Direct = true
is_back phase_state.Resumed = true
is_back _ = false

-- device d is back in suspend, in late and in noirq: nothing is owed to it but its completion (device_complete)
abbrev pub is_back_in_all : Machine → List Entry → ℕ → Bool
is_back_in_all m past d =
    is_back (state_in m past phase.Suspend d) && is_back (state_in m past phase.Late d)
    && is_back (state_in m past phase.Noirq d)

-- a step of the platform on the way up is owed: the end, the finish and the wake for the step that they undo (platform_resume_end,
-- platform_resume_finish, platform_resume_noirq)
abbrev pub is_owed_by : List Entry → PlatUndo → Bool
is_owed_by past undo.Recover = true
is_owed_by past undo.End = owes_platform down.Begin past
is_owed_by past undo.Finish = owes_platform down.Prepare past
is_owed_by past undo.Wake = owes_platform down.PrepareLate past

-- only what is owed is undone, so each is undone once, and a device is completed only if no other is owed to it (dpm_resume, device_resume,
-- device_complete, suspend_finish)
abbrev pub Owed : Machine → List Entry → Kind → Type 0
Owed m past (kind.Schedule p d) = is_up p ≡ true → is_down_in (state_in m past (mirror p) d) ≡ true
Owed m past (kind.Begin p d) = is_up p ≡ true → may_come_up (state_in m past (mirror p) d) ≡ true
Owed m past (kind.End p d r) = is_up p ≡ true → is_resuming (state_in m past (mirror p) d) ≡ true
Owed m past (kind.Complete d) = is_back_in_all m past d ≡ true
Owed m past (kind.NotifyPost x) = is_so (notified_flags m past) x ≡ true
Owed m past (kind.SyscoreResume x) = is_so (stopped (length m.syscore) past) x ≡ true
Owed m past (kind.CpuOn k) = is_so (cpus_off m.cpus past) k ≡ true
Owed m past (kind.Irqs on) = on ≡ true → irqs_off past ≡ true
Owed m past (kind.PlatformUndo step) = is_owed_by past step ≡ true
Owed m past (kind.Wake by_event) = sleeps_now past ≡ true
Owed m past _ = Unit {0}

-- ---- what is done once

-- a phase on the way down may take the device: it is prepared, or scheduled (__device_suspend)
abbrev pub may_go_down : PhaseState → Bool
may_go_down phase_state.Prepared = true
may_go_down phase_state.Scheduled = true
may_go_down _ = false

-- inside its callback on the way down (dpm_run_callback)
abbrev pub is_suspending : PhaseState → Bool
is_suspending phase_state.Suspending = true
is_suspending _ = false

-- a device is prepared once, and each phase on the way down schedules it, begins or skips it, and ends it once, in that order (dpm_prepare,
-- dpm_suspend, __device_suspend)
abbrev pub TakenOnce : Machine → List Entry → Kind → Type 0
TakenOnce m past (kind.Prepare d r) = is_unprepared (state_in m past phase.Suspend d) ≡ true
TakenOnce m past (kind.Schedule p d) = is_down p ≡ true → is_ready (state_in m past p d) ≡ true
TakenOnce m past (kind.Begin p d) = is_down p ≡ true → may_go_down (state_in m past p d) ≡ true
TakenOnce m past (kind.Skip p d cause) = is_down p ≡ true → may_go_down (state_in m past p d) ≡ true
TakenOnce m past (kind.End p d r) = is_down p ≡ true → is_suspending (state_in m past p d) ≡ true
TakenOnce m past _ = Unit {0}

-- a notifier, the platform, a processor, interrupts and the core are taken down, and sleep is entered, only if no undo of that is owed
-- already (pm_notifier_call_chain_robust, platform_suspend_begin, freeze_secondary_cpus, arch_suspend_disable_irqs, syscore_suspend,
-- suspend_enter)
abbrev pub NotOwedAlready : Machine → List Entry → Kind → Type 0
NotOwedAlready m past (kind.NotifyPrepare x r) = is_so (notified_flags m past) x ≡ false
NotOwedAlready m past (kind.PlatformDo step r) = owes_platform step past ≡ false
NotOwedAlready m past (kind.CpuOff k) = is_so (cpus_off m.cpus past) k ≡ false
NotOwedAlready m past (kind.CpuBusy k) = is_so (cpus_off m.cpus past) k ≡ false
NotOwedAlready m past (kind.Irqs on) = on ≡ false → irqs_off past ≡ false
NotOwedAlready m past (kind.SyscoreSuspend x r) = is_so (stopped (length m.syscore) past) x ≡ false
NotOwedAlready m past (kind.Enter busy) = sleeps_now past ≡ false
NotOwedAlready m past _ = Unit {0}

-- ---- what is so when the machine enters sleep

-- d is down in suspend, in late and in noirq (power.is_suspended, power.is_late_suspended, power.is_noirq_suspended)
abbrev pub is_down_in_all : Machine → List Entry → ℕ → Bool
is_down_in_all m past d =
    is_down_in (state_in m past phase.Suspend d) && is_down_in (state_in m past phase.Late d)
    && is_down_in (state_in m past phase.Noirq d)

-- d is down through noirq, or was direct-complete (power.is_noirq_suspended, direct_complete)
abbrev pub is_asleep : Machine → List Entry → ℕ → Bool
is_asleep m past d = is_down_in_all m past d || is_direct_complete (state_in m past phase.Suspend d)

-- task i does nothing more: it is frozen, or has exited (frozen, __refrigerator)
abbrev pub is_inactive : Machine → List Entry → ℕ → Bool
is_inactive m past i = (freezing m i past).frozen || (position_at (positions (length m.actors) past) i).exited

-- the tasks of a group, from number i on, but the attempt's maker (freeze_processes, freeze_kernel_threads)
abbrev pub others_of : Group → Option Actor → ℕ → List Script → List ℕ
others_of g who i [] = []
others_of g who i (s ∷ ss) =
    if is_in g s.kind && not (is_actor (actor.Script i) who) then i ∷ others_of g who (suc i) ss else others_of g who (suc i) ss

-- all is down that sleep wants down, and the platform has taken its three steps (suspend_enter)
pub record AllDown (m : Machine) (past : List Entry) : Type 0 where
  pub devices : list_all (is_asleep m past) (order m past) ≡ true
  pub user_tasks : list_all (is_inactive m past) (others_of group.User (maker past) 0 m.actors) ≡ true
  pub kernel_tasks : list_all (is_inactive m past) (others_of group.Kernel (maker past) 0 m.actors) ≡ true
  pub begun : owes_platform down.Begin past ≡ true
  pub prepared : owes_platform down.Prepare past ≡ true
  pub prepared_late : owes_platform down.PrepareLate past ≡ true
  pub cpus : list_all (is_so (cpus_off m.cpus past)) (other_cpus m) ≡ true
  pub irqs : irqs_off past ≡ true
  pub syscore : list_all (is_so (stopped (length m.syscore) past)) (syscore_steps m) ≡ true

-- the claim, if that is not busy
abbrev pub UnlessBusy : Bool → Type 0 → Type 0
UnlessBusy true what = Unit {0}
UnlessBusy false what = what

-- the machine enters only if all is down (suspend_enter)
abbrev pub EntersDown : Machine → List Entry → Kind → Type 0
EntersDown m past (kind.Enter busy) = UnlessBusy busy (AllDown m past)
EntersDown m past _ = Unit {0}

-- ---- what disturbs an attempt

-- what an entry is to the question whether an attempt was disturbed
pub data TestEffect : Type 0 where
  Opens : TestEffect
  Tests : TestEffect
  Fails : TestEffect
  Else : TestEffect

-- a test, if that phase has one (__device_suspend)
abbrev pub test_of : Phase → TestEffect
test_of p = if tests_wakeup p then Tests else Else

-- a callback that answers an error on the way down fails the attempt (dpm_run_callback)
abbrev pub fail_of : Phase → Option Errno → TestEffect
fail_of p None = Else
fail_of p (Some r) = if is_down p then Fails else Else

-- an error fails the attempt (enter_state)
abbrev pub fails_with : Option Errno → TestEffect
fails_with None = Else
fails_with (Some r) = Fails

-- a freeze that left tasks fails the attempt by its time, else its test found a wakeup (try_to_freeze_tasks)
abbrev pub test_by : FrozeEnd → TestEffect
test_by froze.AllFrozen = Else
test_by (froze.Timeout left first) = Fails
test_by (froze.Wakeup left first) = Tests

-- a device that is skipped by an error makes no test, another does if its phase has one (__device_suspend)
abbrev pub test_unless : SkipCause → Phase → TestEffect
test_unless skip.Error p = Else
test_unless cause p = test_of p

-- an answer below 0 fails the attempt (device_prepare)
abbrev pub fails_by : ℤ → TestEffect
fails_by (pos n) = Else
fails_by (negsuc n) = Fails

-- a test is made at the end of a freeze by a wakeup, before each callback of suspend and late, before each processor, at the core's check
-- and at the entering; an error of a callback or of a freeze fails the attempt (pm_wakeup_pending)
abbrev pub test_effect : Kind → TestEffect
test_effect (kind.Attempt n guarded) = Opens
test_effect (kind.NotifyPrepare x r) = fails_with r
test_effect (kind.Froze g end) = test_by end
test_effect (kind.PlatformDo step r) = fails_with r
test_effect (kind.Prepare d r) = fails_by r
test_effect (kind.Begin p d) = test_of p
test_effect (kind.End p d r) = fail_of p r
test_effect (kind.Skip p d cause) = test_unless cause p
test_effect (kind.CpuOff k) = Tests
test_effect (kind.CpuBusy k) = Tests
test_effect (kind.SyscoreCheck r) = Tests
test_effect (kind.SyscoreSuspend x r) = fails_with r
test_effect (kind.Enter busy) = Tests
test_effect _ = Else

-- whether the open attempt was disturbed, after an entry whose test found that
abbrev pub disturbed_after : TestEffect → Bool → Bool → Bool
disturbed_after Opens busy before = false
disturbed_after Tests busy before = busy || before
disturbed_after Fails busy before = true
disturbed_after Else busy before = before

-- a wakeup was pending at a test of the open attempt, or a step of it failed
abbrev pub disturbed : List Entry → Bool
disturbed [] = false
disturbed (e ∷ past) = disturbed_after (test_effect e.kind) (pending past e.now) (disturbed past)

-- whether the open attempt has entered, after an entry
abbrev pub entered_after : Kind → Bool → Bool
entered_after (kind.Attempt n guarded) before = false
entered_after (kind.Enter busy) before = not busy || before
entered_after _ before = before

-- the open attempt has entered sleep
abbrev pub entered : List Entry → Bool
entered [] = false
entered (e ∷ past) = entered_after e.kind (entered past)

-- an attempt that nothing disturbed has entered, and answers 0 (suspend_enter)
abbrev pub UndisturbedEnters : List Entry → Kind → Type 0
UndisturbedEnters past (kind.Over n r) = disturbed past ≡ false → (entered past ≡ true) × (r ≡ None)
UndisturbedEnters past _ = Unit {0}

-- an attempt answers the error of the step that failed, and 0 exactly if it has entered (enter_state)
abbrev pub AnswersFailure : List Entry → Kind → Type 0
AnswersFailure past (kind.Over n r) = (r ≡ failed past) × (entered past ≡ is_none r)
AnswersFailure past _ = Unit {0}

-- a test that found a wakeup is made only if one is pending at the word that it saw (pm_wakeup_pending)
abbrev pub FoundPending : List Entry → EventNow → CountEffect → Type 0
FoundPending past now Finds = pending past now ≡ true
FoundPending past now _ = Unit {0}

-- ---- the steps of an actor: none left out, none twice, none early

-- an entry of a read
abbrev pub is_of_count_read : Kind → Bool
is_of_count_read kind.ReadWait = true
is_of_count_read (kind.Read c) = true
is_of_count_read kind.ReadIntr = true
is_of_count_read _ = false

-- an entry of a save
abbrev pub is_of_count_save : Kind → Bool
is_of_count_save (kind.SaveWait c) = true
is_of_count_save (kind.Saved c) = true
is_of_count_save (kind.SaveErr c r) = true
is_of_count_save _ = false

-- an entry of a write to the state, whose attempt begins and ends inside it
abbrev pub is_of_state : Kind → Bool
is_of_state kind.StateWait = true
is_of_state (kind.StateErr r) = true
is_of_state kind.StateUnsaved = true
is_of_state (kind.Attempt n guarded) = true
is_of_state (kind.Over n r) = true
is_of_state _ = false

-- an entry of a write to autosleep
abbrev pub is_of_autosleep : Kind → Bool
is_of_autosleep kind.AutoBad = true
is_of_autosleep (kind.AutoSet state) = true
is_of_autosleep kind.AutoDone = true
is_of_autosleep _ = false

-- an entry of a sleep that can be frozen
abbrev pub is_of_sleep : Kind → Bool
is_of_sleep (kind.Sleep until) = true
is_of_sleep kind.Slept = true
is_of_sleep _ = false

-- an entry of an uninterruptible sleep
abbrev pub is_of_sleep_d : Kind → Bool
is_of_sleep_d (kind.SleepD until) = true
is_of_sleep_d kind.Slept = true
is_of_sleep_d _ = false

-- the end of a freeze point
abbrev pub is_pass : Kind → Bool
is_pass kind.Pass = true
is_pass _ = false

-- a post to that mark
abbrev pub is_post_of : ℕ → Kind → Bool
is_post_of mark (kind.Post other) = other == mark
is_post_of mark _ = false

-- the end of a wait for that mark
abbrev pub is_got_of : ℕ → Kind → Bool
is_got_of mark (kind.Got other) = other == mark
is_got_of mark _ = false

-- a request for a runtime status of that device
abbrev pub is_runtime_of : ℕ → Kind → Bool
is_runtime_of d (kind.RuntimeAsk e to_suspended r) = e == d
is_runtime_of d _ = false

-- a new link between those two
abbrev pub is_link_add_of : ℕ → ℕ → Kind → Bool
is_link_add_of supplier consumer (kind.LinkAdd s c r) = s == supplier && c == consumer
is_link_add_of supplier consumer _ = false

-- a state of the link between those two
abbrev pub is_link_state_of : ℕ → ℕ → Kind → Bool
is_link_state_of supplier consumer (kind.LinkState s c active r) = s == supplier && c == consumer
is_link_state_of supplier consumer _ = false

-- an exit
abbrev pub is_exit : Kind → Bool
is_exit kind.Exit = true
is_exit _ = false

-- an entry of that operation, or of the exit after the last
abbrev pub is_of_op : Option Op → Kind → Bool
is_of_op None k = is_exit k
is_of_op (Some op.Read) k = is_of_count_read k
is_of_op (Some (op.Save count)) k = is_of_count_save k
is_of_op (Some (op.State text if_saved)) k = is_of_state k
is_of_op (Some (op.Autosleep text)) k = is_of_autosleep k
is_of_op (Some (op.Sleep ms)) k = is_of_sleep k
is_of_op (Some (op.SleepD ms)) k = is_of_sleep_d k
is_of_op (Some op.FreezePoint) k = is_pass k
is_of_op (Some (op.Post mark)) k = is_post_of mark k
is_of_op (Some (op.Wait mark)) k = is_got_of mark k
is_of_op (Some (op.Runtime d to_suspended)) k = is_runtime_of d k
is_of_op (Some (op.Link supplier consumer)) k = is_link_add_of supplier consumer k
is_of_op (Some (op.LinkState supplier consumer active)) k = is_link_state_of supplier consumer k
is_of_op (Some _) k = false

-- that a task freezes, which it may do between entries of its operations
abbrev pub is_frozen_entry : Kind → Bool
is_frozen_entry kind.Frozen = true
is_frozen_entry _ = false

-- the operations of script i that make entries (own)
abbrev pub steps_of : Option Script → List Op
steps_of None = []
steps_of (Some s) = entry_steps s

-- an entry of a script outside its attempts, whose position this is: it has not exited, and the entry is of the operation under way, or
-- says that it freezes (own)
abbrev pub is_step_entry : List Op → ScriptPosition → Kind → Bool
is_step_entry ops position k = not position.exited && (is_of_op (slice_get ops position.done) k || is_frozen_entry k)

-- an entry of the autosleep work, in that state of it (try_to_suspend)
abbrev pub is_work_entry : Work → Kind → Bool
is_work_entry Resting kind.AutoRun = true
is_work_entry Reading (kind.Read c) = true
is_work_entry (Saving c) (kind.AutoSaved b) = b == c
is_work_entry (Saving c) (kind.AutoUnsaved b) = b == c
is_work_entry (Attempting c) (kind.Attempt n guarded) = true
is_work_entry (Attempting c) kind.AutoOff = true
is_work_entry (Looking c) (kind.AutoAfter seen) = true
is_work_entry (Napping None) (kind.SleepD until) = true
is_work_entry (Napping (Some until)) kind.Slept = true
is_work_entry Closing kind.AutoAgain = true
is_work_entry Closing kind.AutoOff = true
is_work_entry _ _ = false

-- an entry of device d that is scheduled: it begins or is skipped, in its phase (async_suspend, async_resume)
abbrev pub is_of_scheduled : ℕ → Phase → Kind → Bool
is_of_scheduled d p (kind.Begin q e) = e == d && is_phase q p
is_of_scheduled d p (kind.Skip q e cause) = e == d && is_phase q p
is_of_scheduled d p _ = false

-- an entry of device d that is inside its callback: it ends (async_suspend, async_resume)
abbrev pub is_of_inside : ℕ → Phase → Kind → Bool
is_of_inside d p (kind.End q e r) = e == d && is_phase q p
is_of_inside d p _ = false

-- an entry of asynchronous device d, in that state of its work (async_schedule_dev)
abbrev pub is_device_entry : ℕ → AsyncWork → Kind → Bool
is_device_entry d Idle k = false
is_device_entry d (Scheduled p) k = is_of_scheduled d p k
is_device_entry d (Inside p) k = is_of_inside d p k

-- an entry of an actor outside attempts of its own is of its own steps, once and in order (own)
abbrev pub is_in_order : Machine → List Entry → Actor → Kind → Bool
is_in_order m past (actor.Script i) k =
    is_step_entry (steps_of (slice_get m.actors i)) (position_at (positions (length m.actors) past) i) k
is_in_order m past actor.Auto k = is_work_entry (work past) k
is_in_order m past (actor.Dev d) k = is_device_entry d (async_work m past d) k
is_in_order m past _ k = false

-- each actor's entries outside attempts of its own are its steps, once and in order; time makes the jumps (own)
abbrev pub InOrder : Machine → List Entry → Actor → Kind → Type 0
InOrder m past who kind.Jump = who ≡ actor.Time
InOrder m past who k = is_actor who (maker past) ≡ false → is_in_order m past who k ≡ true

-- ---- the laws of a journal

-- the laws at an entry of the journal
pub record LawsAt (m : Machine) (past : List Entry) (e : Entry) : Type 0 where
  pub dependents_first : DependentsFirst m past e.kind
  pub suppliers_first : SuppliersFirst m past e.kind
  pub restored : Restored m past e.kind
  pub owed : Owed m past e.kind
  pub taken_once : TakenOnce m past e.kind
  pub not_owed_already : NotOwedAlready m past e.kind
  pub enters_down : EntersDown m past e.kind
  pub undisturbed_enters : UndisturbedEnters past e.kind
  pub answers_failure : AnswersFailure past e.kind
  pub found_pending : FoundPending past e.now (count_effect e.kind)
  pub in_order : InOrder m past e.actor e.kind

-- the laws at each of the journal's entries, the newest first
abbrev pub Laws : Machine → List Entry → Type 0
Laws m [] = Unit {0}
Laws m (e ∷ past) = LawsAt m past e × Laws m past

-- ---- the saved count, over all entries

-- the count that guards the attempt, after an entry
abbrev pub guard_after : Kind → Option ℕ → Option ℕ
guard_after (kind.Attempt n guarded) before = guarded
guard_after _ before = before

-- the count that guards the open attempt
abbrev pub guard_of : List Entry → Option ℕ
guard_of [] = None
guard_of (e ∷ past) = guard_after e.kind (guard_of past)

-- one more step, if there is one
abbrev pub with_step : Option WordKind → List WordKind → List WordKind
with_step None steps = steps
with_step (Some step) steps = step ∷ steps

-- a read that was answered: its count, and the steps of the word since, the newest first (pm_get_wakeup_count)
pub record Answered : Type 0 where
  pub count : ℕ
  pub steps : List WordKind

-- an answered read, and a step further
abbrev pub later_answer : Option WordKind → Option Answered → Option Answered
later_answer step None = None
later_answer step (Some a) = Some (record a { steps = with_step step a.steps })

-- an actor's last answered read after an entry, which is its own or not
abbrev pub answer_after : Kind → Bool → Option Answered → Option Answered
answer_after (kind.Read c) own before = if own then Some (record { count = c; steps = [] }) else before
answer_after k own before = later_answer (word_step k) before

-- the last answered read of an actor (pm_get_wakeup_count)
abbrev pub answer_of : Actor → List Entry → Option Answered
answer_of who [] = None
answer_of who (e ∷ past) = answer_after e.kind (is_same e.actor who) (answer_of who past)

-- the steps since the read that a save of c rests on, if that read answered c; else none, as it rests on itself (pm_save_wakeup_count)
abbrev pub steps_since_read : ℕ → Option Answered → List WordKind
steps_since_read c None = []
steps_since_read c (Some a) = if a.count == c then a.steps else []

-- the steps since the read after the last save, after an entry
abbrev pub steps_after : Kind → Option Answered → List WordKind → List WordKind
steps_after (kind.Saved c) answered before = steps_since_read c answered
steps_after (kind.AutoSaved c) answered before = steps_since_read c answered
steps_after k answered before = with_step (word_step k) before

-- the steps of the word since the read that the last good save rests on, the newest first (saved_count)
abbrev pub steps_since : List Entry → List WordKind
steps_since [] = []
steps_since (e ∷ past) = steps_after e.kind (answer_of e.actor past) (steps_since past)

-- under that count no step of the word was made since it was read, and no event is in progress (pm_wakeup_pending)
abbrev pub SawNothing : List Entry → Option ℕ → Type 0
SawNothing past None = Unit {0}
SawNothing past (Some c) = (steps_since past ≡ []) × ((numbers past).inpr ≡ 0)

-- an attempt under a saved count enters only if nothing came since (pm_save_wakeup_count, pm_wakeup_pending)
abbrev pub EntersUnseen : List Entry → Kind → Type 0
EntersUnseen past (kind.Enter busy) = UnlessBusy busy (SawNothing past (guard_of past))
EntersUnseen past _ = Unit {0}

-- so at each entry, the newest first
abbrev pub GuardedSleep : List Entry → Type 0
GuardedSleep [] = Unit {0}
GuardedSleep (e ∷ past) = EntersUnseen past e.kind × GuardedSleep past
