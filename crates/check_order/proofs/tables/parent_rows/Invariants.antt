-- The invariant of the loop of `parent_rows`.
use Rattle.std.proofs.Common.{◌≡◌, take, map, option_to_list}
use Rattle.check_order.proofs.tables.parent_rows.Given as goal

abbrev pub invariant-loop-parent : goal.invariant-loop-parent
invariant-loop-parent l = l.table.rows ≡ map option_to_list (take l.parent-index l.parents)
