-- The invariant of the loop of `registered`.
use Rattle.std.proofs.Common.{◌≡◌}
use Rattle.std.specs.List.{range_with_len}
use Rattle.check_order.proofs.order.registered.Given as goal

abbrev pub invariant-loop-device : goal.invariant-loop-device
invariant-loop-device l = l.order.items ≡ range_with_len 0 l.device
