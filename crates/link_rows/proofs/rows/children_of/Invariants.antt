-- The invariant of the loop of `children_of`.
use Rattle.std.proofs.Common.{length, take}
use Rattle.sleep_model.specs.Order.{children_from}
use Rattle.link_rows.specs.Rows.{IsTableOf}
use Rattle.link_rows.proofs.rows.children_of.Given as goal

abbrev pub invariant-loop-number : goal.invariant-loop-number
invariant-loop-number l = IsTableOf (length l.parents) (λ d. children_from d 0 (take l.number l.parents)) l.table.rows
