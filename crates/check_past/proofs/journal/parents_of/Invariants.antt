-- The invariant of the loop of `parents_of`.
use Rattle.std.proofs.Common.{◌≡◌, take}
use Rattle.sleep_model.specs.Order.{parents_of}
use Rattle.check_past.proofs.journal.parents_of.Given as goal

abbrev pub invariant-loop-device : goal.invariant-loop-device
invariant-loop-device l = l.parents.items ≡ parents_of (take l.device-index l.devices)
