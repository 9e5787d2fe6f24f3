-- The states of devices, one a device for each pair of phases (include/linux/pm.h, struct dev_pm_info).
use Rattle.std.specs.Prelude.{ℕ, Bool, true, false, List, [], ◌∷◌, ℤ, pos, negsuc, Option, Some, None, if◌then◌else◌, replicate, slice_set, slice_index_or}
use Rattle.sleep_base.specs.declared.errno.Errno.{Errno}
use Rattle.sleep_model.specs.declared.entry.Entry.{Entry}
use Rattle.sleep_model.specs.declared.entry.Kind.{Kind}
use Rattle.sleep_model.specs.declared.entry.Kind.TheVariants as kind
use Rattle.sleep_model.specs.declared.entry.SkipCause.{SkipCause}
use Rattle.sleep_model.specs.declared.entry.SkipCause.TheVariants as skip
use Rattle.phase_table.specs.declared.phase.Phase.{Phase}
use Rattle.sleep_model.specs.declared.progress.PhaseState.{PhaseState}
use Rattle.sleep_model.specs.declared.progress.PhaseState.TheVariants as state
use Rattle.phase_table.specs.Phases.{is_phase, mirror}

-- ---- what an entry does to a device

-- a prepare that answers 0 or 1 prepares, an error does not (device_prepare)
abbrev pub prepared_by : ℤ → PhaseState → PhaseState
prepared_by (pos r) before = state.Prepared
prepared_by (negsuc r) before = before

-- a callback on the way down that answers 0 suspends the device, another fails (dpm_run_callback)
abbrev pub ended_by : Option Errno → PhaseState
ended_by None = state.Suspended
ended_by (Some r) = state.Failed

-- a device that is skipped is direct-complete, or given up (__device_suspend)
abbrev pub skipped_for : SkipCause → PhaseState
skipped_for skip.Direct = state.Direct
skipped_for _ = state.Failed

-- one for a phase p on the way down, one for its mirror, another for any other phase q
abbrev pub by_phase : Phase → Phase → PhaseState → PhaseState → PhaseState → PhaseState
by_phase p q down up other = if is_phase q p then down else if is_phase q (mirror p) then up else other

-- the state of the device of an entry after it, for phase p and its mirror (device_prepare, __device_suspend, device_resume)
abbrev pub phase_state_after : Phase → Kind → PhaseState → PhaseState
phase_state_after p (kind.Prepare d r) before = prepared_by r before
phase_state_after p (kind.Complete d) before = state.Unprepared
phase_state_after p (kind.Schedule q d) before = by_phase p q state.Scheduled state.Rescheduled before
phase_state_after p (kind.Begin q d) before = by_phase p q state.Suspending state.Resuming before
phase_state_after p (kind.End q d r) before = by_phase p q (ended_by r) state.Resumed before
phase_state_after p (kind.Skip q d cause) before = by_phase p q (skipped_for cause) before before
phase_state_after p _ before = before

-- the device that an entry is of (own)
abbrev pub device_of : Kind → Option ℕ
device_of (kind.Prepare d r) = Some d
device_of (kind.Complete d) = Some d
device_of (kind.Schedule q d) = Some d
device_of (kind.Begin q d) = Some d
device_of (kind.End q d r) = Some d
device_of (kind.Skip q d cause) = Some d
device_of _ = None

-- the state of a device among others (struct dev_pm_info)
abbrev pub state_at : List PhaseState → ℕ → PhaseState
state_at phase_states d = slice_index_or phase_states d state.Unprepared

-- an entry moves only its own device (dpm_run_callback)
abbrev pub phase_states_after : Phase → Kind → Option ℕ → List PhaseState → List PhaseState
phase_states_after p k None before = before
phase_states_after p k (Some d) before = slice_set before d (phase_state_after p k (state_at before d))

-- the state of each of n devices in phase p and its mirror (struct dev_pm_info)
abbrev pub phase_states : ℕ → Phase → List Entry → List PhaseState
phase_states n p [] = replicate n state.Unprepared
phase_states n p (e ∷ past) = phase_states_after p e.kind (device_of e.kind) (phase_states n p past)

-- ---- questions

-- not prepared (power.is_prepared)
abbrev pub is_unprepared : PhaseState → Bool
is_unprepared state.Unprepared = true
is_unprepared _ = false

-- prepared (power.is_prepared)
abbrev pub is_prepared : PhaseState → Bool
is_prepared state.Unprepared = false
is_prepared _ = true

-- prepared, and not yet taken by the phase on the way down (dpm_prepared_list)
abbrev pub is_ready : PhaseState → Bool
is_ready state.Prepared = true
is_ready _ = false

-- not done with the phase on the way down (power.completion)
abbrev pub is_not_down : PhaseState → Bool
is_not_down state.Unprepared = true
is_not_down state.Prepared = true
is_not_down state.Scheduled = true
is_not_down state.Suspending = true
is_not_down _ = false

-- scheduled on the way down, and not done (async_schedule_dev)
abbrev pub is_going_down : PhaseState → Bool
is_going_down state.Scheduled = true
is_going_down state.Suspending = true
is_going_down _ = false

-- down in the phase: its callback answered 0 (power.is_suspended)
abbrev pub is_down_in : PhaseState → Bool
is_down_in state.Suspended = true
is_down_in _ = false

-- direct-complete (power.direct_complete)
abbrev pub is_direct_complete : PhaseState → Bool
is_direct_complete state.Direct = true
is_direct_complete _ = false

-- down, or direct-complete
abbrev pub is_down_or_direct : PhaseState → Bool
is_down_or_direct state.Suspended = true
is_down_or_direct state.Direct = true
is_down_or_direct _ = false

-- not yet up: it is down, scheduled on the way up, or inside its callback (power.completion)
abbrev pub is_not_up : PhaseState → Bool
is_not_up state.Suspended = true
is_not_up state.Rescheduled = true
is_not_up state.Resuming = true
is_not_up _ = false

-- late has taken the device: it has begun, failed, was direct-complete, or has gone further (__device_suspend_late)
abbrev pub is_taken : PhaseState → Bool
is_taken state.Unprepared = false
is_taken state.Prepared = false
is_taken state.Scheduled = false
is_taken _ = true
