-- The invariant of the loop of `wakeup_of`.
use Rattle.std.proofs.Common.{◌≡◌, map, take}
use Rattle.sleep_model.specs.Runtime.{may_wake}
use Rattle.sleep_core.proofs.start.wakeup_of.Given as goal

abbrev pub invariant-loop-device : goal.invariant-loop-device
invariant-loop-device l = l.wakeup.items ≡ map may_wake (take l.device-index l.devices)
