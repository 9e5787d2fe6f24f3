-- The runtime status of devices, as far as sleep asks for it (drivers/base/power/runtime.c).
use Rattle.std.specs.Prelude.{ℕ, Bool, true, false, ◌==◌, ◌&&◌, ◌||◌, ◌/◌, ◌%◌, List, [], ◌∷◌, length, map, if◌then◌else◌, Option, Some, None, slice_set}
use Rattle.sleep_base.specs.declared.errno.Errno.{Errno}
use Rattle.sleep_base.specs.declared.errno.Errno.TheVariants.{EACCES, EAGAIN}
use Rattle.sleep_model.specs.declared.entry.Entry.{Entry}
use Rattle.sleep_model.specs.declared.entry.Kind.{Kind}
use Rattle.sleep_model.specs.declared.entry.Kind.TheVariants.{RuntimeAsk, Begin, Skip, Done}
use Rattle.sleep_model.specs.declared.entry.SkipCause.{SkipCause}
use Rattle.sleep_model.specs.declared.entry.SkipCause.TheVariants.{Direct}
use Rattle.sleep_model.specs.declared.flags.DeviceFlags.{DeviceFlags}
use Rattle.sleep_model.specs.declared.machine.Device.{Device}
use Rattle.sleep_model.specs.declared.machine.Machine.{Machine}
use Rattle.phase_table.specs.declared.phase.Phase.{Phase}
use Rattle.phase_table.specs.declared.phase.Phase.TheVariants as phase
use Rattle.sleep_model.specs.PhaseStates.{phase_states, state_at, is_prepared, is_direct_complete, is_taken}

-- ---- what the file says of a device

-- the file's flags: asynchronous, may wake the machine, runtime suspended at first (struct dev_pm_info)
abbrev pub has_bit : ℕ → DeviceFlags → Bool
has_bit bit flags = (flags.0 / bit) % 2 == 1

-- its callbacks may run at the same time as others (power.async_suspend)
abbrev pub is_async : Device → Bool
is_async d = has_bit 1 d.flags

-- it may wake the machine (device_may_wakeup)
abbrev pub may_wake : Device → Bool
may_wake d = has_bit 2 d.flags

-- it is runtime suspended at first (pm_runtime_set_suspended)
abbrev pub starts_suspended : Device → Bool
starts_suspended d = has_bit 4 d.flags

-- ---- the status

-- which devices are runtime suspended, after a request of that status that is answered so: 0 sets it (__pm_runtime_set_status)
abbrev pub set_status : Option Errno → ℕ → Bool → List Bool → List Bool
set_status None d to_suspended before = slice_set before d to_suspended
set_status (Some r) d to_suspended before = before

-- which devices are runtime suspended, after an entry (__pm_runtime_set_status)
abbrev pub statuses_after : Kind → List Bool → List Bool
statuses_after (RuntimeAsk d to_suspended r) before = set_status r d to_suspended before
statuses_after _ before = before

-- which of these devices are runtime suspended (power.runtime_status)
abbrev pub statuses : List Device → List Entry → List Bool
statuses devices [] = map starts_suspended devices
statuses devices (e ∷ past) = statuses_after e.kind (statuses devices past)

-- ---- the spans in which runtime PM is disabled

-- a device is direct-complete by suspend, after a skip in that phase (__device_suspend, direct_complete)
abbrev pub direct_disables : Phase → SkipCause → Bool → Bool
direct_disables phase.Suspend Direct before = true
direct_disables p cause before = before

-- the end of resume is the end of it (device_resume, pm_runtime_enable)
abbrev pub direct_disables_until : Phase → Bool → Bool
direct_disables_until phase.Resume before = false
direct_disables_until p before = before

-- suspend has skipped a device as direct-complete, and resume is not done since, after an entry (__device_suspend, device_resume)
abbrev pub disabled_by_direct_after : Kind → Bool → Bool
disabled_by_direct_after (Skip p d cause) before = direct_disables p cause before
disabled_by_direct_after (Done p r) before = direct_disables_until p before
disabled_by_direct_after _ before = before

-- suspend has skipped a device as direct-complete, and resume is not done since (__device_suspend, device_resume)
abbrev pub disabled_by_direct : List Entry → Bool
disabled_by_direct [] = false
disabled_by_direct (e ∷ past) = disabled_by_direct_after e.kind (disabled_by_direct past)

-- late has taken a device, after its begin or its skip in that phase (__device_suspend_late)
abbrev pub late_disables : Phase → Bool → Bool
late_disables phase.Late before = true
late_disables p before = before

-- the end of early is the end of it (device_resume_early, pm_runtime_enable)
abbrev pub late_disables_until : Phase → Bool → Bool
late_disables_until phase.Early before = false
late_disables_until p before = before

-- late has taken a device, and early is not done since, after an entry (__device_suspend_late, device_resume_early)
abbrev pub disabled_by_late_after : Kind → Bool → Bool
disabled_by_late_after (Begin p d) before = late_disables p before
disabled_by_late_after (Skip p d cause) before = late_disables p before
disabled_by_late_after (Done p r) before = late_disables_until p before
disabled_by_late_after _ before = before

-- late has taken a device, and early is not done since (__device_suspend_late, device_resume_early)
abbrev pub disabled_by_late : List Entry → Bool
disabled_by_late [] = false
disabled_by_late (e ∷ past) = disabled_by_late_after e.kind (disabled_by_late past)

-- d was direct-complete in suspend, and resume is not done since: runtime PM of it is disabled (__device_suspend, pm_runtime_disable)
abbrev pub is_disabled_direct : Machine → ℕ → List Entry → Bool
is_disabled_direct m d past = disabled_by_direct past && is_direct_complete (state_at (phase_states (length m.devices) phase.Suspend past) d)

-- d was taken by late, and early is not done since: runtime PM of it is disabled (__device_suspend_late, __pm_runtime_disable)
abbrev pub is_disabled_late : Machine → ℕ → List Entry → Bool
is_disabled_late m d past = disabled_by_late past && is_taken (state_at (phase_states (length m.devices) phase.Late past) d)

-- d is prepared (power.is_prepared)
abbrev pub is_prepared_device : Machine → ℕ → List Entry → Bool
is_prepared_device m d past = is_prepared (state_at (phase_states (length m.devices) phase.Suspend past) d)

-- ---- requests

-- the answer to a request for a runtime status: EACCES if it is disabled, EAGAIN if a prepared device is to be suspended
-- (__pm_runtime_set_status, rpm_check_suspend_allowed)
abbrev pub runtime_answer : Bool → Bool → Bool → Option Errno
runtime_answer disabled prepared to_suspended =
    if disabled then Some EACCES else if prepared && to_suspended then Some EAGAIN else None

-- the answer for d at a point of the log
abbrev pub runtime_due : Machine → ℕ → Bool → List Entry → Option Errno
runtime_due m d to_suspended past =
    runtime_answer (is_disabled_direct m d past || is_disabled_late m d past) (is_prepared_device m d past) to_suspended
