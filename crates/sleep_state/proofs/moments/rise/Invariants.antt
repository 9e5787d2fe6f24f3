-- The invariant of the loop of `rise`, and the measure by which it ends.
use Rattle.std.proofs.Common.{◌≡◌, ◌<◌, ◌*◌, drop, length}
use Rattle.sleep_state.specs.Trees.{AreJoinedBut}
use Rattle.sleep_state.proofs.moments.rise.Given as goal

abbrev pub invariant-loop-at : goal.invariant-loop-at
invariant-loop-at l = (length l.nodes ≡ 2 * l.many) × (l.at < l.many) × AreJoinedBut l.many l.at l.nodes × (drop l.many l.nodes ≡ drop l.many l.fn.nodes)

abbrev pub decreases-loop-at : goal.decreases-loop-at
decreases-loop-at l = l.at
