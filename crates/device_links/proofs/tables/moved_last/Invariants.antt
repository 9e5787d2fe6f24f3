-- The invariant of the loop of `moved_last`.
use Rattle.std.proofs.Common.{◌≡◌, ◌≤◌, not, false, filter, take, length, get_or, vec_len, vec_capacity}
use Rattle.device_links.proofs.tables.moved_last.Given as goal

abbrev pub invariant-loop-device : goal.invariant-loop-device
invariant-loop-device l =
    (l.moved.items ≡ filter (λ d. not (get_or l.marks d false)) (take l.device-index l.order))
    × (vec_len l.moved ≤ l.device-index)
    × (length l.order ≤ vec_capacity l.moved)
