-- The invariant of the loop of `WakeLocks::list_names`.
use Rattle.std.proofs.Common.{◌≡◌, take}
use Rattle.wake_locks.specs.Locks.{names_of}
use Rattle.wake_locks.proofs.locks.WakeLocks.list_names.Given as goal

abbrev pub invariant-loop-lock : goal.invariant-loop-lock
invariant-loop-lock g l = l.names.items ≡ names_of l.active (take l.lock-index l.lock-items)
