-- The invariant of the loop of `WakeLocks::with_row`, and the measure by which it ends.
use Rattle.std.proofs.Common.{◌≤◌, ◌<◌, ℕ}
use Rattle.wake_locks.specs.LockFields.{IsSoonest, NoneEndsWithin}
use Rattle.wake_locks.specs.LockStatuses.{never}
use Rattle.wake_locks.proofs.locks.WakeLocks.with_row.Given as goal

abbrev pub invariant-loop-at : goal.invariant-loop-at
invariant-loop-at g l = record {
  below : l.at ≤ l.until;
  in_range : l.from ≤ l.at;
  soonest : (to : ℕ) → to < never → IsSoonest to l.self l.until l.fn.after → IsSoonest to l.self l.at l.found;
  none : NoneEndsWithin l.least l.at l.until l.self;
}

abbrev pub decreases-loop-at : goal.decreases-loop-at
decreases-loop-at g l = l.at
