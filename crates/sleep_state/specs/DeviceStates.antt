-- The state of the devices' phases as one value, and what an entry does to it.
use Rattle.std.specs.Prelude.{Bool, false, List, length, map, replicate, Option, None}
use Rattle.sleep_base.specs.declared.errno.Errno.{Errno}
use Rattle.sleep_model.specs.declared.entry.Actor.{Actor}
use Rattle.sleep_model.specs.declared.entry.Kind.{Kind}
use Rattle.sleep_model.specs.declared.machine.Device.{Device}
use Rattle.sleep_model.specs.declared.progress.Callback.{Callback}
use Rattle.sleep_model.specs.Devices.{is_device, callback_after, phase_failed_after, own_error_after, asks_direct_after}
use Rattle.sleep_model.specs.Runtime.{starts_suspended, statuses_after, disabled_by_direct_after, disabled_by_late_after}

-- the maker's callback, the errors of the open phase, the devices that may be direct-complete, their runtime statuses, and the spans in
-- which runtime PM is disabled (struct dev_pm_info)
pub record DeviceState : Type 0 where
  pub callback : Option Callback
  pub failed : Option Errno
  pub own_error : Option Errno
  pub asks_direct : List Bool
  pub statuses : List Bool
  pub disabled_by_direct : Bool
  pub disabled_by_late : Bool

-- no phase is open, and each device has the runtime status that the file gives it
abbrev pub undisturbed : List Device → DeviceState
undisturbed devices = record {
  callback = None;
  failed = None;
  own_error = None;
  asks_direct = replicate (length devices) false;
  statuses = map starts_suspended devices;
  disabled_by_direct = false;
  disabled_by_late = false;
}

-- what an entry of that actor does (dpm_run_callback, __pm_runtime_set_status)
abbrev pub devices_after : Kind → Actor → DeviceState → DeviceState
devices_after kind who before = record {
  callback = callback_after kind (is_device who) before.callback;
  failed = phase_failed_after kind before.failed;
  own_error = own_error_after kind (is_device who) before.own_error;
  asks_direct = asks_direct_after kind before.asks_direct;
  statuses = statuses_after kind before.statuses;
  disabled_by_direct = disabled_by_direct_after kind before.disabled_by_direct;
  disabled_by_late = disabled_by_late_after kind before.disabled_by_late;
}
