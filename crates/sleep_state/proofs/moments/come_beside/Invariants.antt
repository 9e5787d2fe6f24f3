-- The invariant of the loop of `come_beside`, and the measure by which it ends.
use Rattle.std.proofs.Common.{◌<◌, ◌*◌}
use Rattle.sleep_state.proofs.moments.come_beside.Given as goal

abbrev pub invariant-loop-at : goal.invariant-loop-at
invariant-loop-at l = l.at < 2 * l.many

abbrev pub decreases-loop-at : goal.decreases-loop-at
decreases-loop-at l = l.at
