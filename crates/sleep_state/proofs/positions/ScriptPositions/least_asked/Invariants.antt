-- The invariant of the loop of `ScriptPositions::least_asked`.
use Rattle.std.proofs.Common.{◌≡◌}
use Rattle.sleep_state.specs.Sleepers.{earliest_end}
use Rattle.sleep_state.proofs.positions.ScriptPositions.least_asked.Given as goal

abbrev pub invariant-loop-script : goal.invariant-loop-script
invariant-loop-script l = l.next ≡ earliest_end l.self l.script
