-- The invariant of the loop of `of_rows`.
use Rattle.std.proofs.Common.{◌≡◌, map, take}
use Rattle.check_order.proofs.shown.ShownRows.of_rows.Given as goal

abbrev pub invariant-loop-number : goal.invariant-loop-number
invariant-loop-number l = map (λ v. v.items) l.rows.items ≡ take l.number l.table.rows
