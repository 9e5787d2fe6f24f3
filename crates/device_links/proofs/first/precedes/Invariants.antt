-- The invariant of the loop of `precedes`.
use Rattle.std.proofs.Common.{◌≡◌, false, take}
use Rattle.sleep_model.specs.Order.{is_among}
use Rattle.device_links.proofs.first.precedes.Given as goal

abbrev pub invariant-loop-device : goal.invariant-loop-device
invariant-loop-device l = is_among (take l.device-index l.order) l.other ≡ false
