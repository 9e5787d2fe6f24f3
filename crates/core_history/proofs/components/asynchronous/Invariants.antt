-- The invariant of the loop of `asynchronous`.
use Rattle.std.proofs.Common.{◌≡◌, map, take}
use Rattle.sleep_model.specs.Runtime.{is_async}
use Rattle.core_history.proofs.components.asynchronous.Given as goal

abbrev pub invariant-loop-device : goal.invariant-loop-device
invariant-loop-device l = l.asynchronous.items ≡ map is_async (take l.device-index l.devices)
