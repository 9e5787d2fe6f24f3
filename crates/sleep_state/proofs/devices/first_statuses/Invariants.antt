-- The invariant of the loop of `first_statuses`.
use Rattle.std.proofs.Common.{◌≡◌, map, take}
use Rattle.sleep_model.specs.Runtime.{starts_suspended}
use Rattle.sleep_state.proofs.devices.first_statuses.Given as goal

abbrev pub invariant-loop-device : goal.invariant-loop-device
invariant-loop-device l = l.statuses.items ≡ map starts_suspended (take l.device-index l.devices)
