-- The invariant of the loop of `push_suppliers`.
use Rattle.std.proofs.Common.{◌≡◌, ◌==◌, ◌++◌, filter, map, reverse, take}
use Rattle.sleep_model.specs.Order.{active_of, suppliers_of, with_state}
use Rattle.check_order.proofs.links.push_suppliers.Given as goal

abbrev pub invariant-loop-place : goal.invariant-loop-place
invariant-loop-place l =
    l.row.items ≡ l.fn.row.items
    ++ suppliers_of l.changed.consumer (active_of (map (with_state l.changed.supplier l.changed.consumer l.changed.active) (reverse (take l.place-index (filter (λ x. x.consumer == l.changed.consumer) l.links)))))
