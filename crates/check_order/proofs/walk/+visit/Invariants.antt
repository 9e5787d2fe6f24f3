-- The invariant of the loop of `visit`, and the number that falls each time.
use Rattle.std.proofs.Common.{◌-◌, length, drop}
use Rattle.device_rows.specs.Table.{row_at}
use Rattle.check_order.specs.Visited.{Leaves, all_visited, visited}
use Rattle.check_order.proofs.walk.+visit.Given as goal

abbrev pub decreases-visit : goal.decreases-visit
decreases-visit l = l.levels

abbrev pub invariant-loop-i : goal.invariant-loop-i
invariant-loop-i l =
    Leaves (length l.fn.visits.marks) (all_visited (visited (l.levels - 1) (row_at l.table)) (drop l.i l.row) l.fn.visits.out) l.visits
