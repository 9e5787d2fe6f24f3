-- The invariant of the loop of `WakeLocks::advance`.
use Rattle.std.proofs.Common.{◌≡◌, ◌≤◌, ◌+◌, length, None}
use Rattle.wake_locks.specs.Expiries.{expiries, stopped}
use Rattle.wake_locks.specs.Locks.{AreBefore}
use Rattle.wake_locks.proofs.Expired.{due_count}
use Rattle.wake_locks.proofs.locks.WakeLocks.advance.Given as goal

abbrev pub invariant-loop : goal.invariant-loop
invariant-loop g l = record {
  many_is : l.many ≡ length l.initial.self;
  so_far : expiries g.row.CAP l.to l.counter l.initial.self ≡ stopped l.self None;
  time : AreBefore l.to l.self;
  left : due_count l.to l.self + l.counter ≤ l.many;
}
