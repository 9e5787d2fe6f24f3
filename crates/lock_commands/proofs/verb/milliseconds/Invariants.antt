-- The invariant of the loop of `milliseconds`.
use Rattle.std.proofs.Common.{◌≡◌, ◌≤◌, ◌+◌, ◌-◌, ◌*◌, drop, fold}
use Rattle.wake_locks.specs.Texts.{value_of}
use Rattle.lock_commands.proofs.verb.milliseconds.Given as goal

abbrev pub invariant-loop-digit : goal.invariant-loop-digit
invariant-loop-digit l = record {
  rest : value_of l.digits ≡ fold (λ n b. 10 * n + (b - 48)) l.ms (drop l.digit-index l.digits);
  small : l.ms ≤ 86400000;
}
