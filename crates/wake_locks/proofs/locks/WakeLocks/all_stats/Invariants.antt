-- The invariant of the loop of `WakeLocks::all_stats`.
use Rattle.std.proofs.Common.{◌≡◌, map, take}
use Rattle.wake_locks.specs.Counted.{AllAgree, lock_stats}
use Rattle.wake_locks.proofs.locks.WakeLocks.all_stats.Given as goal

abbrev pub invariant-loop-lock : goal.invariant-loop-lock
invariant-loop-lock g l = record {
  lock_stats : l.all.items ≡ map (lock_stats l.now) (take l.lock-index l.lock-items);
  agree : AllAgree (take l.lock-index l.lock-items);
}
