-- The invariant of the loop of `visit`, and the number that falls each time.
use Rattle.std.proofs.Common.{◌+◌, length}
use Rattle.device_rows.specs.Table.{row_at}
use Rattle.sleep_model.specs.Order.{moved}
use Rattle.device_links.proofs.Visiting.{Visiting, unseen, open_weight}
use Rattle.device_links.proofs.visits.visit.Given as goal

abbrev pub invariant-loop-top : goal.invariant-loop-top
invariant-loop-top l = Visiting (row_at l.table) (moved (length l.table.rows) (row_at l.table)) (length l.table.rows) l.from l.fn.visits.out l.frames l.visits.out l.visits.entered.items l.visits.left.items

abbrev pub decreases-loop-top : goal.decreases-loop-top
decreases-loop-top l = unseen (row_at l.table) 0 l.visits.entered.items + open_weight (row_at l.table) l.frames
