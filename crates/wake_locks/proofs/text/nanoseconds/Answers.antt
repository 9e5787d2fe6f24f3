-- Proof that `nanoseconds` meets its contract.
use Rattle.std.proofs.Common.{◌+◌, ◌-◌, ◌*◌, drop, get_or, arith}
use Rattle.wake_locks.proofs.Digits.{too_long, no_smaller, one_more}
use Rattle.wake_locks.proofs.text.nanoseconds.Goals as goal

pub returns-then-ns-gt-MOST_NANOSECONDS : goal.returns-then-ns-gt-MOST_NANOSECONDS
returns-then-ns-gt-MOST_NANOSECONDS c =
    let digits = c.args.digits.now in
    let at = c.loop-digit.digit-index in
    let next = 10 * c.loop-digit.ns + (get_or digits at 0 - 48) in
    too_long digits (omega (
      arith,
      c.loop-digit.invariant.rest,
      one_more digits at c.loop-digit.ns c.loop-digit-test.true,
      no_smaller (drop (at + 1) digits) next,
      c.from.ensures,
      c.saturating_sub.ensures,
      c.if-ns-gt-MOST_NANOSECONDS.true,
    ))
