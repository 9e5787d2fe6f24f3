-- Proof that `WakeLocks::insert` meets its contract, and that it keeps the invariant of its type.
use Rattle.std.proofs.Common.{◌≡◌, ◌<◌, ◌∙◌, min, List, length, sym, ap, subst, arith}
use Rattle.std.specs.List.{insert}
use Rattle.std.proofs.lemmas.Grind.{common_steps}
use Rattle.std.proofs.lemmas.List.Edits.{length-insert}
use Rattle.wake_locks.specs.Locks.{LockState, put, AreSortedByName}
use Rattle.wake_locks.specs.LockStatuses.{end_or_never}
use Rattle.wake_locks.specs.LockFields.{IsGapFor, NoneEndsBefore}
use Rattle.wake_locks.proofs.Placed.{put_gap, put_in_order}
use Rattle.wake_locks.proofs.Rows.{floors_new}
use Rattle.wake_locks.proofs.Sooner.{insert_sooner, less}
use Rattle.wake_locks.proofs.locks.WakeLocks.insert.Goals as goal

pub invariant_of-self-2 : goal.invariant_of-self-2
invariant_of-self-2 g c =
    let items = c.self.inside.locks.items in
    let gap = subst (λ (xs : List LockState). IsGapFor c.args.lock.name xs c.args.at) (sym c.self.view_is) c.requires.gap in
    let few : length items < 100 = subst (λ (xs : List LockState). length xs < 100) (sym c.self.view_is) c.requires.few in
    let is : c.insert.new.self.items ≡ insert items c.args.at c.args.lock = grind (arith, common_steps) in
    let sooner = insert_sooner c.self.inside.soonest c.args.at items c.args.lock gap.in_range c.self.invariant.none_sooner in
    record {
      in_order = subst AreSortedByName (put_gap c.args.lock items c.args.at gap ∙ sym is) (put_in_order c.args.lock items c.self.invariant.in_order);
      few = omega (arith, ap length is, length-insert items c.args.at c.args.lock gap.in_range, few);
      places_few = c.self.invariant.places_few;
      none_sooner = subst (NoneEndsBefore c.min-self-inside.result) (sym is)
          (less c.min-self-inside.result (min c.self.inside.soonest (end_or_never c.args.lock.status)) (insert items c.args.at c.args.lock) (omega (arith, c.min-self-inside.ensures, c.end_or_never-end.ensures.end)) sooner);
      floors_are = floors_new c.new-self-inside.result.moments c.insert.new.self.items c.new-self-inside.ensures;
    }

pub returns-clause-ok : goal.returns-clause-ok
returns-clause-ok g c =
    let items = c.self.inside.locks.items in
    let gap = subst (λ (xs : List LockState). IsGapFor c.args.lock.name xs c.args.at) (sym c.self.view_is) c.requires.gap in
    let is : c.insert.new.self.items ≡ insert items c.args.at c.args.lock = grind (arith, common_steps) in
    is ∙ sym (put_gap c.args.lock items c.args.at gap) ∙ ap (put c.args.lock) c.self.view_is
