-- The invariant of the loop of `with_rows`.
use Rattle.std.proofs.Common.{◌≡◌, [], replicate}
use Rattle.device_rows.proofs.rows.Rows.with_rows.Given as goal

abbrev pub invariant-loop-row : goal.invariant-loop-row
invariant-loop-row l = l.table.rows ≡ replicate l._row []
