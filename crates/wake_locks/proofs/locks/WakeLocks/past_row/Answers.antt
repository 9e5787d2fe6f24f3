-- Proof that `WakeLocks::past_row` meets its contract, and that it keeps the invariant of its type, and that it meets what `of_row`,
-- `set_row` and `with_row` require.
use Rattle.std.proofs.Common.{◌≡◌, ◌<◌, ◌+◌, ◌*◌, ◌∙◌, ℕ, min, List, length, get_or, sym, ap, subst, arith}
use Rattle.wake_locks.specs.LockFields.{AreFloors, IsSoonest, NoneEndsWithin, with_floor}
use Rattle.wake_locks.specs.Locks.{LockState}
use Rattle.wake_locks.proofs.Rows.{floors_row, passed}
use Rattle.wake_locks.proofs.locks.WakeLocks.past_row.Goals as goal

pub of_row-floor-requires : goal.of_row-floor-requires
of_row-floor-requires g c =
    let l : c.args.row * 8 < length c.self.inside.locks.items = subst (λ (xs : List LockState). c.args.row * 8 < length xs) (sym c.self.view_is) c.requires.in_range in
    omega (arith, l, c.self.invariant.few)

pub set_row-requires : goal.set_row-requires
set_row-requires g c =
    let l : c.args.row * 8 < length c.self.inside.locks.items = subst (λ (xs : List LockState). c.args.row * 8 < length xs) (sym c.self.view_is) c.requires.in_range in
    omega (arith, l, c.self.invariant.few)

pub returns-then-to-floor-clause-first : goal.returns-then-to-floor-clause-first
returns-then-to-floor-clause-first g c =
    let moments = c.self.inside.floors.moments in
    let floors : AreFloors moments c.args.self.now = subst (AreFloors moments) c.self.view_is c.self.invariant.floors_are in
    let is : c.with_floor.result ≡ with_floor (get_or moments c.args.row 0) c.args.found = c.with_floor.ensures ∙ ap (λ floor. with_floor floor c.args.found) c.of_row-floor.ensures in
    subst (IsSoonest c.args.to c.args.self.now (c.args.row * 8)) (sym is)
    (passed c.args.to moments c.args.row c.args.self.now c.args.found floors c.requires.in_range (omega (arith, c.if-to-floor.true, c.of_row-floor.ensures)) c.requires.after)

pub with_row-least-requires : goal.with_row-least-requires
with_row-least-requires g c =
    let many : c.len.result ≡ length c.args.self.now = omega (arith, c.len.ensures, ap (λ (xs : List LockState). length xs) c.self.view_is) in
    (omega arith, (omega (arith, many, c.min-until.ensures, c.requires.in_range), omega (arith, many, c.min-until.ensures)))

pub returns-clause-first : goal.returns-clause-first
returns-clause-first g c =
    let many : c.len.result ≡ length c.args.self.now = omega (arith, c.len.ensures, ap (λ (xs : List LockState). length xs) c.self.view_is) in
    c.with_row-least.ensures.first c.args.to c.requires.small (subst (λ n. IsSoonest c.args.to c.args.self.now n c.args.found) (omega (arith, many, c.min-until.ensures)) c.requires.after)

pub invariant_of-self : goal.invariant_of-self
invariant_of-self g c =
    let items = c.self.inside.locks.items in
    let l : c.args.row * 8 < length items = subst (λ (xs : List LockState). c.args.row * 8 < length xs) (sym c.self.view_is) c.requires.in_range in
    let none : NoneEndsWithin c.with_row-least.result.1 (c.args.row * 8) (min (length items) (c.args.row * 8 + 8)) items =
    subst (λ n. NoneEndsWithin c.with_row-least.result.1 (c.args.row * 8) n items) (omega (arith, c.min-until.ensures, c.len.ensures))
    (subst (NoneEndsWithin c.with_row-least.result.1 (c.args.row * 8) c.min-until.result) (sym c.self.view_is) c.with_row-least.ensures.least) in
    record {
      in_order = c.self.invariant.in_order;
      few = c.self.invariant.few;
      places_few = c.self.invariant.places_few;
      none_sooner = c.self.invariant.none_sooner;
      floors_are = subst (λ (ms : List ℕ). AreFloors ms items) (sym c.set_row.ensures)
          (floors_row c.self.inside.floors.moments c.args.row c.with_row-least.result.1 items l c.self.invariant.few none c.self.invariant.floors_are);
    }
