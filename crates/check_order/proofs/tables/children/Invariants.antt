-- The invariant of the loop of `children`.
use Rattle.std.proofs.Common.{length, take}
use Rattle.sleep_model.specs.Order.{children_from}
use Rattle.check_order.specs.Graphs.{IsTableOf}
use Rattle.check_order.proofs.tables.children.Given as goal

abbrev pub invariant-loop-number : goal.invariant-loop-number
invariant-loop-number l = IsTableOf (length l.parents) (λ d. children_from d 0 (take l.number l.parents)) l.table.rows
