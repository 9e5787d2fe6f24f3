-- Proof that `WakeLocks::call_at` meets its contract, and that it keeps the invariant of its type, and that it meets what `lower`
-- requires.
use Rattle.std.proofs.Common.{◌<◌, ◌∙◌, ℕ, min, List, length, get_or, set, sym, subst, arith}
use Rattle.std.proofs.lemmas.List.{length-set}
use Rattle.wake_locks.specs.Locks.{LockState}
use Rattle.wake_locks.specs.LockFields.{AreFloors}
use Rattle.wake_locks.specs.LockStatuses.{end_or_never}
use Rattle.wake_locks.proofs.Placed.{any_of}
use Rattle.wake_locks.proofs.Rows.{floors_lower}
use Rattle.wake_locks.proofs.Sooner.{less, set_sooner}
use Rattle.wake_locks.proofs.Written.{Called, at_ended, at_preserved}
use Rattle.wake_locks.proofs.locks.WakeLocks.call_at.Goals as goal

pub lower-requires : goal.lower-requires
lower-requires g c =
    let l : c.args.at < length c.self.inside.locks.items = subst (λ (xs : List LockState). c.args.at < length xs) (sym c.self.view_is) c.requires.in_range in
    omega (arith, l, c.self.invariant.few)

pub invariant_of-self : goal.invariant_of-self
invariant_of-self g c =
    let items = c.self.inside.locks.items in
    let lock = c.index_mut-lock.result.now in
    let l : c.args.at < length items = subst (λ (xs : List LockState). c.args.at < length xs) (sym c.self.view_is) c.requires.in_range in
    let called : Called g.row.CAP c.args.call c.args.now (get_or items c.args.at lock) c.call-made.new.self c.call-made.result =
    subst (λ (x : LockState). Called g.row.CAP c.args.call c.args.now x c.call-made.new.self c.call-made.result) c.index_mut-lock.ensures.value
    (record { done = c.call-made.ensures.done; full = c.call-made.ensures.full; err = c.call-made.ensures.err }) in
    let new = c.call-made.new.self in
    record {
      in_order = at_preserved g.row.CAP c.args.call c.args.now c.args.at items c.call-made.new.self lock c.call-made.result c.self.invariant.in_order l called;
      few = omega (arith, length-set items c.args.at c.call-made.new.self, c.self.invariant.few);
      places_few = c.self.invariant.places_few;
      none_sooner = less c.min-self-inside.result (min c.self.inside.soonest (end_or_never new.status)) (set items c.args.at new) (omega (arith, c.min-self-inside.ensures, c.end_or_never-end.ensures.end))
          (set_sooner c.self.inside.soonest c.args.at items new c.self.invariant.none_sooner);
      floors_are = subst (λ (ms : List ℕ). AreFloors ms (set items c.args.at new)) (sym c.lower.ensures)
          (floors_lower c.self.inside.floors.moments c.args.at c.end_or_never-end.result items new l c.self.invariant.few c.end_or_never-end.ensures.end c.self.invariant.floors_are);
    }

pub returns : goal.returns
returns g c d =
    let items = c.self.inside.locks.items in
    let lock = c.index_mut-lock.result.now in
    let l : c.args.at < length items = subst (λ (xs : List LockState). c.args.at < length xs) (sym c.self.view_is) c.requires.in_range in
    let called : Called g.row.CAP c.args.call c.args.now (get_or items c.args.at d) c.call-made.new.self c.call-made.result =
    subst (λ (x : LockState). Called g.row.CAP c.args.call c.args.now x c.call-made.new.self c.call-made.result) (c.index_mut-lock.ensures.value ∙ any_of items c.args.at lock d l)
    (record { done = c.call-made.ensures.done; full = c.call-made.ensures.full; err = c.call-made.ensures.err }) in
    rw (← c.self.view_is, c.answered.ensures) (at_ended g.row.CAP c.args.call c.args.now c.args.at items c.call-made.new.self d c.call-made.result c.self.invariant.in_order l called)
