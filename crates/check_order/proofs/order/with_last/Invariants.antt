-- The invariant of the loop of `with_last`.
use Rattle.std.proofs.Common.{◌≡◌, ◌≤◌, false, not, filter, take, length, get_or, vec_len, vec_capacity}
use Rattle.check_order.proofs.order.with_last.Given as goal

abbrev pub invariant-loop-device : goal.invariant-loop-device
invariant-loop-device l =
    (l.moved.items ≡ filter (λ d. not (get_or l.marks d false)) (take l.device-index l.order))
    × (vec_len l.moved ≤ l.device-index)
    × (length l.order ≤ vec_capacity l.moved)
