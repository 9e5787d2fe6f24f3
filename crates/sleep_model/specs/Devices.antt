-- The phases of devices, with asynchronous ones, errors and devices that are direct-complete (drivers/base/power/main.c).
use Rattle.std.specs.Prelude.{ℕ, Bool, true, false, not, ◌==◌, ◌&&◌, List, [], ◌∷◌, ℤ, pos, negsuc, length, map, if◌then◌else◌, Option, Some, None, replicate, slice_set}
use Rattle.std.specs.List.{list_all}
use Rattle.sleep_base.specs.declared.errno.Errno.{Errno}
use Rattle.sleep_base.specs.declared.errno.Errno.TheVariants.{EBUSY}
use Rattle.sleep_model.specs.declared.word.EventNow.{EventNow}
use Rattle.sleep_model.specs.declared.entry.Actor.{Actor}
use Rattle.sleep_model.specs.declared.entry.Actor.TheVariants as actor
use Rattle.sleep_model.specs.declared.entry.Entry.{Entry}
use Rattle.sleep_model.specs.declared.entry.Kind.{Kind}
use Rattle.sleep_model.specs.declared.entry.Kind.TheVariants as kind
use Rattle.sleep_model.specs.declared.entry.SkipCause.{SkipCause}
use Rattle.sleep_model.specs.declared.entry.SkipCause.TheVariants as skip
use Rattle.sleep_model.specs.declared.log.Why.TheVariants as why
use Rattle.sleep_model.specs.declared.machine.Machine.{Machine}
use Rattle.sleep_model.specs.declared.machine.What.TheVariants as what
use Rattle.phase_table.specs.declared.phase.Phase.{Phase}
use Rattle.phase_table.specs.declared.phase.Phase.TheVariants as phase
pub use Rattle.sleep_model.specs.declared.progress.AsyncWork.{AsyncWork}
pub use Rattle.sleep_model.specs.declared.progress.AsyncWork.TheVariants.{Idle, Scheduled, Inside}
pub use Rattle.sleep_model.specs.declared.progress.Callback.{Callback}
use Rattle.sleep_model.specs.declared.progress.Due.{Due}
use Rattle.sleep_model.specs.declared.progress.Due.TheVariants.{Makes, Waits}
use Rattle.sleep_model.specs.declared.progress.PhaseState.{PhaseState}
use Rattle.sleep_model.specs.declared.progress.PhaseState.TheVariants as state
use Rattle.sleep_model.specs.Answers.{answer, answer_error, answer_number, error_of_number}
use Rattle.sleep_model.specs.Guard.{pending}
use Rattle.sleep_model.specs.Order.{order, below, above}
use Rattle.sleep_model.specs.Path.{attempts}
use Rattle.phase_table.specs.Phases.{is_down, mirror, tests_wakeup}
use Rattle.sleep_model.specs.Runtime.{is_async, may_wake, statuses}
use Rattle.sleep_model.specs.PhaseStates.{phase_states, state_at, is_unprepared, is_prepared, is_ready, is_not_down, is_going_down, is_down_in, is_direct_complete, is_not_up}
use Rattle.sleep_model.specs.Walk.{is_so, first_where, last_where, or_else}

-- ---- callbacks

-- the actor is an asynchronous device (async_schedule_dev)
abbrev pub is_device : Actor → Bool
is_device (actor.Dev d) = true
is_device _ = false

-- `own` if the entry is an asynchronous device's own, else `other` (own)
abbrev pub unless_own : {A : Type 0} → Bool → A → A → A
unless_own true own other = own
unless_own false own other = other

-- the callback that the attempt's maker runs, after an entry, which is a device's own or not (dpm_run_callback)
abbrev pub callback_after : Kind → Bool → Option Callback → Option Callback
callback_after (kind.Begin p d) own before = unless_own own before (Some (record { phase = p; device = d }))
callback_after (kind.End p d r) own before = unless_own own before None
callback_after _ own before = before

-- the callback that the attempt's maker runs, if one (dpm_run_callback)
abbrev pub callback : List Entry → Option Callback
callback [] = None
callback (e ∷ past) = callback_after e.kind (is_device e.actor) (callback past)

-- what the machine answers for a device in that phase of the open attempt
abbrev pub device_error : Machine → List Entry → Phase → ℕ → Option Errno
device_error m past p d = answer_error (answer m (what.Device d p) (attempts past))

-- ---- the error of a phase

-- the error of a callback on the way down counts (async_error)
abbrev pub error_in : Phase → Option Errno → Option Errno → Option Errno
error_in p None before = before
error_in p (Some r) before = if is_down p then Some r else before

-- a wakeup that a device finds is EBUSY (__device_suspend, async_error)
abbrev pub error_by : SkipCause → Option Errno → Option Errno
error_by skip.Pending before = Some EBUSY
error_by _ before = before

-- the error of the phase, after an entry: a failed prepare's or callback's on the way down, or EBUSY of a wakeup that was found
-- (async_error)
abbrev pub phase_failed_after : Kind → Option Errno → Option Errno
phase_failed_after (kind.Attempt n guarded) before = None
phase_failed_after (kind.Done p r) before = None
phase_failed_after (kind.Prepare d r) before = or_else (error_of_number r) before
phase_failed_after (kind.End p d r) before = error_in p r before
phase_failed_after (kind.Skip p d cause) before = error_by cause before
phase_failed_after _ before = before

-- the error of the phase that is open (async_error)
abbrev pub phase_failed : List Entry → Option Errno
phase_failed [] = None
phase_failed (e ∷ past) = phase_failed_after e.kind (phase_failed past)

-- the error of a synchronous device's callback, after an entry, which is a device's own or not (dpm_suspend, error)
abbrev pub own_error_after : Kind → Bool → Option Errno → Option Errno
own_error_after (kind.Attempt n guarded) own before = None
own_error_after (kind.Done p r) own before = None
own_error_after (kind.End p d r) own before = unless_own own before (error_in p r before)
own_error_after _ own before = before

-- the error of a synchronous device's callback in the phase that is open (dpm_suspend, error)
abbrev pub own_error : List Entry → Option Errno
own_error [] = None
own_error (e ∷ past) = own_error_after e.kind (is_device e.actor) (own_error past)

-- what a phase on the way down answers: a synchronous callback's error, else the last that was set (dpm_suspend)
abbrev pub phase_error : List Entry → Option Errno
phase_error past = or_else (own_error past) (phase_failed past)

-- ---- devices that are direct-complete

-- an answer of 1
abbrev pub is_one : ℤ → Bool
is_one (pos n) = n == 1
is_one (negsuc n) = false

-- which devices may be direct-complete, after an entry (device_prepare, direct_complete)
abbrev pub asks_direct_after : Kind → List Bool → List Bool
asks_direct_after (kind.Prepare d r) before = slice_set before d (is_one r)
asks_direct_after _ before = before

-- which of n devices answered 1 to their last prepare (power.direct_complete)
abbrev pub asks_direct : ℕ → List Entry → List Bool
asks_direct n [] = replicate n false
asks_direct n (e ∷ past) = asks_direct_after e.kind (asks_direct n past)

-- device d of the machine is asynchronous (power.async_suspend)
abbrev pub is_async_device : Machine → ℕ → Bool
is_async_device m d = is_so (map is_async m.devices) d

-- device d of the machine may wake it (device_may_wakeup)
abbrev pub may_wake_device : Machine → ℕ → Bool
may_wake_device m d = is_so (map may_wake m.devices) d

-- the state of device d in phase p and its mirror (struct dev_pm_info)
abbrev pub state_in : Machine → List Entry → Phase → ℕ → PhaseState
state_in m past p d = state_at (phase_states (length m.devices) p past) d

-- d is direct-complete: it asked for direct-complete, is runtime suspended, may not wake the machine, and all below it are direct-complete
-- (__device_suspend, direct_complete)
abbrev pub is_direct_now : Machine → List Entry → ℕ → Bool
is_direct_now m past d =
    is_so (asks_direct (length m.devices) past) d && is_so (statuses m.devices past) d && not (may_wake_device m d)
    && list_all (λ e. is_direct_complete (state_in m past phase.Suspend e)) (below m past d)

-- phase p skips d as direct-complete: suspend by its state now, late and noirq by what suspend did (__device_suspend,
-- __device_suspend_late, direct_complete)
abbrev pub is_direct : Machine → List Entry → Phase → ℕ → Bool
is_direct m past phase.Suspend d = is_direct_now m past d
is_direct m past p d = is_direct_complete (state_in m past phase.Suspend d)

-- ---- the way down

-- a device at its turn: a pending wakeup skips it, direct-complete skips it, or its callback begins (__device_suspend)
abbrev pub taken : Machine → List Entry → EventNow → Phase → ℕ → Kind
taken m past now p d =
    if tests_wakeup p && pending past now then kind.Skip p d skip.Pending
    else if is_direct m past p d then kind.Skip p d skip.Direct else kind.Begin p d

-- wait for that device, or else do this (dpm_wait)
abbrev pub after_device : Option ℕ → Due → Due
after_device None next = next
after_device (Some d) next = Waits (why.Device d)

-- the first device below d that is not done with phase p (dpm_wait_for_subordinate)
abbrev pub waits_for_subordinates : Machine → List Entry → Phase → ℕ → Option ℕ
waits_for_subordinates m past p d = first_where (λ e. is_not_down (state_in m past p e)) (below m past d)

-- the first device that is scheduled and not done with phase p (async_synchronize_full)
abbrev pub waits_down : Machine → List Entry → Phase → Option ℕ
waits_down m past p = first_where (λ d. is_going_down (state_in m past p d)) (order m past)

-- the device that the walk down takes next: the last that the phase has not taken (dpm_suspend)
abbrev pub next_down : Machine → List Entry → Phase → Option ℕ
next_down m past p = last_where (λ d. is_ready (state_in m past p d)) (order m past)

-- the walk down at that device: an asynchronous one is scheduled, another waits for all below it (__device_suspend, dpm_async_fn)
abbrev pub take_down : Machine → List Entry → EventNow → Phase → ℕ → Due
take_down m past now p d =
    if is_async_device m d then Makes (kind.Schedule p d)
    else after_device (waits_for_subordinates m past p d) (Makes (taken m past now p d))

-- the end of a phase on the way down, once all that were scheduled are done (dpm_suspend, async_synchronize_full)
abbrev pub close_down : Machine → List Entry → Phase → Due
close_down m past p = after_device (waits_down m past p) (Makes (kind.Done p (phase_error past)))

-- the walk down between callbacks: it ends at an error, or if no device is left (dpm_suspend)
abbrev pub walk_down : Machine → List Entry → EventNow → Phase → Option Errno → Option ℕ → Due
walk_down m past now p None (Some d) = take_down m past now p d
walk_down m past now p error next = close_down m past p

-- a phase on the way down, at its walk (dpm_suspend, dpm_suspend_late, dpm_noirq_suspend_devices)
abbrev pub down_due : Machine → List Entry → EventNow → Phase → Option Callback → Due
down_due m past now p (Some c) = Makes (kind.End p c.device (device_error m past p c.device))
down_due m past now p None = walk_down m past now p (phase_failed past) (next_down m past p)

-- an error lets a scheduled device do nothing (__device_suspend, async_error)
abbrev pub unless_failed : Option Errno → Phase → ℕ → Kind → Kind
unless_failed None p d next = next
unless_failed (Some r) p d next = kind.Skip p d skip.Error

-- ---- the way up: p is the phase on the way down whose mirror it is

-- the first device above d that is not yet up (dpm_wait_for_superior)
abbrev pub waits_above : Machine → List Entry → Phase → ℕ → Option ℕ
waits_above m past p d = first_where (λ e. is_not_up (state_in m past p e)) (above m past d)

-- the first asynchronous device that is down and not yet scheduled (dpm_resume, dpm_async_fn)
abbrev pub next_to_schedule : Machine → List Entry → Phase → Option ℕ
next_to_schedule m past p = first_where (λ d. is_down_in (state_in m past p d) && is_async_device m d) (order m past)

-- the first synchronous device that is down (dpm_resume)
abbrev pub next_up : Machine → List Entry → Phase → Option ℕ
next_up m past p = first_where (λ d. is_down_in (state_in m past p d) && not (is_async_device m d)) (order m past)

-- the first device that is not yet up (async_synchronize_full)
abbrev pub waits_up : Machine → List Entry → Phase → Option ℕ
waits_up m past p = first_where (λ d. is_not_up (state_in m past p d)) (order m past)

-- the walk up between callbacks: first it schedules, then each synchronous device waits for all above it (dpm_resume)
abbrev pub walk_up : Machine → List Entry → Phase → Option ℕ → Option ℕ → Due
walk_up m past p (Some d) next = Makes (kind.Schedule p d)
walk_up m past p None (Some d) = after_device (waits_above m past (mirror p) d) (Makes (kind.Begin p d))
walk_up m past p None None = after_device (waits_up m past (mirror p)) (Makes (kind.Done p None))

-- a phase on the way up, at its walk: it tests for no wakeup (dpm_noirq_resume_devices, dpm_resume_early, dpm_resume)
abbrev pub up_due : Machine → List Entry → Phase → Option Callback → Due
up_due m past p (Some c) = Makes (kind.End p c.device (device_error m past p c.device))
up_due m past p None = walk_up m past p (next_to_schedule m past (mirror p)) (next_up m past (mirror p))

-- ---- prepare and complete

-- the device that is prepared next (dpm_prepare)
abbrev pub next_prepared : Machine → List Entry → Option ℕ
next_prepared m past = first_where (λ d. is_unprepared (state_in m past phase.Suspend d)) (order m past)

-- prepare goes forward, and an error ends it (dpm_prepare)
abbrev pub prepare_due : Machine → List Entry → Option Errno → Option ℕ → Due
prepare_due m past None (Some d) =
    Makes (kind.Prepare d (answer_number (answer m (what.Device d phase.Prepare) (attempts past))))
prepare_due m past error next = Makes (kind.Done phase.Prepare error)

-- the device that is completed next (dpm_complete)
abbrev pub next_completed : Machine → List Entry → Option ℕ
next_completed m past = last_where (λ d. is_prepared (state_in m past phase.Suspend d)) (order m past)

-- complete goes backward over the prepared devices (dpm_complete)
abbrev pub complete_due : Option ℕ → Due
complete_due None = Makes (kind.Done phase.Complete None)
complete_due (Some d) = Makes (kind.Complete d)

-- ---- an asynchronous device

-- the work in phase p or its mirror of a device in that state, else the other (async_schedule_dev, dpm_run_callback)
abbrev pub work_in : Phase → PhaseState → AsyncWork → AsyncWork
work_in p state.Scheduled other = Scheduled p
work_in p state.Suspending other = Inside p
work_in p state.Rescheduled other = Scheduled (mirror p)
work_in p state.Resuming other = Inside (mirror p)
work_in p _ other = other

-- the work of a device by its states in the three pairs of phases (async_schedule_dev)
abbrev pub work_by : PhaseState → PhaseState → PhaseState → AsyncWork
work_by suspend late noirq = work_in phase.Suspend suspend (work_in phase.Late late (work_in phase.Noirq noirq Idle))

-- the work of device d: a synchronous one has none of its own (async_schedule_dev)
abbrev pub async_work : Machine → List Entry → ℕ → AsyncWork
async_work m past d =
    if is_async_device m d
    then work_by (state_in m past phase.Suspend d) (state_in m past phase.Late d) (state_in m past phase.Noirq d)
    else Idle

-- a device that is scheduled, at its turn: it waits as its phase wants (async_suspend, async_resume)
abbrev pub scheduled_due : Machine → List Entry → EventNow → Phase → ℕ → Due
scheduled_due m past now p d =
    if is_down p
    then after_device (waits_for_subordinates m past p d) (Makes (unless_failed (phase_failed past) p d (taken m past now p d)))
    else after_device (waits_above m past (mirror p) d) (Makes (kind.Begin p d))

-- an asynchronous device, by the state of its work (async_suspend, async_resume)
abbrev pub device_due : Machine → List Entry → EventNow → ℕ → AsyncWork → Due
device_due m past now d Idle = Waits why.NotScheduled
device_due m past now d (Scheduled p) = scheduled_due m past now p d
device_due m past now d (Inside p) = Makes (kind.End p d (device_error m past p d))
