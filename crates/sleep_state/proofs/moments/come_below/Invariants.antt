-- The invariant of the loop of `come_below`, and the measure by which it ends.
use Rattle.std.proofs.Common.{◌≡◌, ◌<◌, ◌-◌, ◌*◌, false, nat_lt, slice_index_or}
use Rattle.sleep_state.specs.Trees.{never}
use Rattle.sleep_state.proofs.moments.come_below.Given as goal

abbrev pub invariant-loop-at : goal.invariant-loop-at
invariant-loop-at l = (0 < l.at) × (l.at < 2 * l.many) × (nat_lt l.now (slice_index_or l.nodes l.at never) ≡ false)

abbrev pub decreases-loop-at : goal.decreases-loop-at
decreases-loop-at l = l.many - l.at
