-- Proof that `WakeLocks::with_row` meets its contract, and that its loop keeps its invariant, and that it meets what `index` requires.
use Rattle.std.proofs.Common.{◌≡◌, ◌<◌, ◌+◌, ◌-◌, suc, List, length, get_or, sym, ap, subst, arith}
use Rattle.wake_locks.specs.LockFields.{IsSoonest, NoneEndsWithin}
use Rattle.wake_locks.specs.Locks.{LockState}
use Rattle.wake_locks.specs.LockStatuses.{never}
use Rattle.wake_locks.proofs.Rows.{within_more, within_none}
use Rattle.wake_locks.proofs.Sooner.{one_more}
use Rattle.wake_locks.proofs.locks.WakeLocks.with_row.Goals as goal

pub loop-at-init : goal.loop-at-init
loop-at-init g c = record { below = omega arith; in_range = c.requires.ordered; soonest = λ to k h. h; none = within_none never c.args.until c.args.self.now }

pub index-lock-requires : goal.index-lock-requires
index-lock-requires g c = omega (arith, c.loop-at-test.true, c.loop-at.invariant.below, c.requires.in_range, ap (λ (xs : List LockState). length xs) c.self.view_is)

pub loop-at-preserved : goal.loop-at-preserved
loop-at-preserved g c =
    let locks = c.args.self.now in
    let at = c.loop-at.at - 1 in
    let lock = c.index-lock.result.now in
    let l : at < length locks = omega (arith, c.loop-at-test.true, c.loop-at.invariant.below, c.requires.in_range) in
    let is = subst (λ (xs : List LockState). lock ≡ get_or xs at lock) c.self.view_is c.index-lock.ensures in
    let none = subst (λ n. NoneEndsWithin c.loop-at.least n c.args.until locks) {y = at + 1} (omega (arith, c.loop-at-test.true)) c.loop-at.invariant.none in
    record {
      below = omega (arith, c.loop-at.invariant.below);
      in_range = omega (arith, c.loop-at-test.true);
      soonest = λ to k h. subst (IsSoonest to locks at) (sym c.with_lock-found.ensures)
          (one_more to locks at lock c.end_or_never-end.result c.loop-at.found k l is c.end_or_never-end.ensures.end c.end_or_never-end.ensures.following
          (subst (λ n. IsSoonest to locks n c.loop-at.found) {y = suc at} (omega (arith, c.loop-at-test.true)) (c.loop-at.invariant.soonest to k h)));
      none = within_more locks at c.args.until lock c.end_or_never-end.result c.loop-at.least c.min-least.result l is c.end_or_never-end.ensures.end c.min-least.ensures none;
    }

pub returns-clause-first : goal.returns-clause-first
returns-clause-first g c to k h = subst (λ n. IsSoonest to c.args.self.now n c.loop-at.found) (omega (arith, c.loop-at-test.false, c.loop-at.invariant.in_range)) (c.loop-at.invariant.soonest to k h)

pub returns-clause-least : goal.returns-clause-least
returns-clause-least g c = subst (λ n. NoneEndsWithin c.loop-at.least n c.args.until c.args.self.now) (omega (arith, c.loop-at-test.false, c.loop-at.invariant.in_range)) c.loop-at.invariant.none
