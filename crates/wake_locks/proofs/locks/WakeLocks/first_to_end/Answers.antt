-- Proof that the loop of `WakeLocks::first_to_end` keeps its invariant, and that it meets what `past_row` requires.
use Rattle.std.proofs.Common.{◌≡◌, ◌*◌, ◌+◌, ◌-◌, ◌∙◌, min, List, length, refl, sym, ap, subst, arith}
use Rattle.wake_locks.specs.LockFields.{IsSoonest}
use Rattle.wake_locks.specs.Locks.{LockState}
use Rattle.wake_locks.specs.LockStatuses.{never}
use Rattle.wake_locks.proofs.Sooner.{none_after}
use Rattle.wake_locks.proofs.locks.WakeLocks.first_to_end.Goals as goal

pub loop-row-init : goal.loop-row-init
loop-row-init g c =
    let locks = c.args.self.now in
    let many : c.len-many.result ≡ length locks = omega (arith, c.len-many.ensures, ap (λ (xs : List LockState). length xs) c.self.view_is) in
    record {
      same = refl;
      in_range = omega (arith, many);
      soonest = subst (λ n. IsSoonest c.args.to locks n (record { at = c.len-many.result; end = never; others = never })) {x = c.len-many.result} (omega (arith, many)) (none_after c.args.to locks c.len-many.result c.requires many);
    }

pub past_row-found-requires : goal.past_row-found-requires
past_row-found-requires g c =
    let same = c.loop-row.invariant.same in (
      omega arith,
      (
        c.requires,
        (
          omega (arith, c.loop-row-test.true, c.loop-row.invariant.in_range, ap (λ (xs : List LockState). length xs) same),
          subst (λ (xs : List LockState). IsSoonest c.args.to xs (min ((c.loop-row.row - 1) * 8 + 8) (length xs)) c.loop-row.found) (sym same)
              (subst (λ n. IsSoonest c.args.to c.args.self.now n c.loop-row.found) (omega (arith, c.loop-row-test.true)) c.loop-row.invariant.soonest),
        ),
      ),
    )

pub loop-row-preserved : goal.loop-row-preserved
loop-row-preserved g c =
    let locks = c.args.self.now in
    let same = c.loop-row.invariant.same in
    let first = subst (λ (xs : List LockState). IsSoonest c.args.to xs ((c.loop-row.row - 1) * 8) c.past_row-found.result) same c.past_row-found.ensures.first in
    record {
      same = c.past_row-found.ensures.same ∙ same;
      in_range = omega (arith, c.loop-row.invariant.in_range);
      soonest = subst (λ n. IsSoonest c.args.to locks n c.past_row-found.result) (omega (arith, c.loop-row-test.true, c.loop-row.invariant.in_range)) first;
    }
