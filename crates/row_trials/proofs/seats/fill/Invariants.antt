-- The invariant of the loop of `fill`.
use Rattle.std.proofs.Common.{◌≡◌, ◌≤◌}
use Rattle.wakeup_source.specs.SourceStates.{unstamped_source, latest}
use Rattle.row_trials.proofs.seats.fill.Given as goal

abbrev pub invariant-loop : goal.invariant-loop
invariant-loop g l = (l.source.seat.table_id ≡ l.fn.source.seat.table_id) × (latest (unstamped_source l.source.source.past) ≤ 0)
