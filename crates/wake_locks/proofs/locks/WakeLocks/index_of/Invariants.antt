-- The invariant of the loop of `WakeLocks::index_of`, and the measure by which it ends.
use Rattle.std.proofs.Common.{◌≤◌, ◌-◌, length}
use Rattle.wake_locks.specs.LockFields.{AreAllBefore}
use Rattle.wake_locks.proofs.Placed.{ArePreceded}
use Rattle.wake_locks.proofs.locks.WakeLocks.index_of.Given as goal

abbrev pub invariant-loop-low : goal.invariant-loop-low
invariant-loop-low g l = record {
  in_range : l.low ≤ l.high;
  within : l.high ≤ length l.self;
  before : AreAllBefore l.name l.self l.low;
  after : ArePreceded l.name l.self l.high;
}

abbrev pub decreases-loop-low : goal.decreases-loop-low
decreases-loop-low g l = l.high - l.low
