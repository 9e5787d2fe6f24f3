-- The invariant of the loop of `push_consumers`.
use Rattle.std.proofs.Common.{◌≡◌, ◌==◌, ◌++◌, filter, map, reverse, take}
use Rattle.sleep_model.specs.Order.{active_of, consumers_of, with_state}
use Rattle.check_order.proofs.links.push_consumers.Given as goal

abbrev pub invariant-loop-place : goal.invariant-loop-place
invariant-loop-place l =
    l.row.items ≡ l.fn.row.items
    ++ consumers_of l.changed.supplier (active_of (map (with_state l.changed.supplier l.changed.consumer l.changed.active) (reverse (take l.place-index (filter (λ x. x.supplier == l.changed.supplier) l.links)))))
