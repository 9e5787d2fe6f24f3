-- The invariant of the loop of `nanoseconds`.
use Rattle.std.proofs.Common.{◌≡◌, ◌≤◌, ◌+◌, ◌-◌, ◌*◌, drop, fold}
use Rattle.wake_locks.specs.Texts.{value_of}
use Rattle.wake_locks.proofs.text.nanoseconds.Given as goal

abbrev pub invariant-loop-digit : goal.invariant-loop-digit
invariant-loop-digit l = record {
  rest : value_of l.digits ≡ fold (λ n b. 10 * n + (b - 48)) l.ns (drop l.digit-index l.digits);
  small : l.ns ≤ 86400000000000;
}
