-- The invariant of the loop of `WakeLocks::first_to_end`, and the measure by which it ends.
use Rattle.std.proofs.Common.{◌≡◌, ◌≤◌, ◌+◌, ◌*◌, min, length}
use Rattle.wake_locks.specs.LockFields.{IsSoonest}
use Rattle.wake_locks.proofs.locks.WakeLocks.first_to_end.Given as goal

abbrev pub invariant-loop-row : goal.invariant-loop-row
invariant-loop-row g l = record {
  same : l.self ≡ l.initial.self;
  in_range : l.row * 8 ≤ length l.initial.self + 7;
  soonest : IsSoonest l.to l.initial.self (min (l.row * 8) (length l.initial.self)) l.found;
}

abbrev pub decreases-loop-row : goal.decreases-loop-row
decreases-loop-row g l = l.row
