-- The invariant of the loop of `parents_of`.
use Rattle.std.proofs.Common.{◌≡◌, map, take, option_to_list}
use Rattle.link_rows.proofs.rows.parents_of.Given as goal

abbrev pub invariant-loop-parent : goal.invariant-loop-parent
invariant-loop-parent l = l.table.rows ≡ map option_to_list (take l.parent-index l.parents)
