-- Proof by hand of `milliseconds`: what it returns, by the lemmas of `Digits`.
use Rattle.std.proofs.Common.{◌+◌, ◌-◌, ◌*◌, drop, get_or, arith}
use Rattle.wake_locks.proofs.Digits.{no_smaller, one_more}
use Rattle.lock_commands.proofs.Digits.{too_long}
use Rattle.lock_commands.proofs.verb.milliseconds.Goals as goal

pub returns-then-ms-gt-MOST_MS-clause-is : goal.returns-then-ms-gt-MOST_MS-clause-is
returns-then-ms-gt-MOST_MS-clause-is c =
    let digits = c.args.digits.now in
    let at = c.loop-digit.digit-index in
    let next = 10 * c.loop-digit.ms + (get_or digits at 0 - 48) in
    too_long digits (omega (
      arith,
      c.loop-digit.invariant.rest,
      one_more digits at c.loop-digit.ms c.loop-digit-test.true,
      no_smaller (drop (at + 1) digits) next,
      c.from.ensures,
      c.saturating_sub.ensures,
      c.if-ms-gt-MOST_MS.true,
    ))
