-- The invariant of the loop of `walk`, and the number that falls each time.
use Rattle.std.proofs.Common.{◌≡◌, ◌≤◌, ◌+◌, length, drop, option_to_list, vec_capacity}
use Rattle.device_rows.specs.Table.{row_at}
use Rattle.sleep_model.specs.Order.{moved}
use Rattle.device_links.proofs.Walking.{Walking, IsOver, spare, way, weight}
use Rattle.device_links.proofs.walk.walk.Given as goal

abbrev pub invariant-loop-here : goal.invariant-loop-here
invariant-loop-here l =
    Walking (row_at l.table) (moved (length l.table.rows) (row_at l.table)) (length l.table.rows) l.from l.target (way l.here l.above.items) (drop l.start l.out.items) l.marks.items
    × IsOver l.here l.above.items
    × (length (option_to_list l.here) + length l.above.items + spare l.marks.items ≤ l.start)
    × (length l.table.rows ≤ vec_capacity l.above)
    × (l.start ≤ length l.table.rows)
    × (length l.out.items ≡ length l.table.rows)

abbrev pub decreases-loop-here : goal.decreases-loop-here
decreases-loop-here l = weight (row_at l.table) (moved (length l.table.rows) (row_at l.table)) (way l.here l.above.items)
