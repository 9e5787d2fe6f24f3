-- Proof that `WakeLocks::advance` meets its contract, and that its loop keeps its invariant, and that it keeps the invariant of its type,
-- and that it meets what `call_at` requires.
use Rattle.std.proofs.Common.{◌≡◌, ◌≤◌, ◌+◌, Err, None, ◌-◌, ◌∙◌, List, [], length, get_or, sym, ap, subst, refl, arith}
use Rattle.std.proofs.lemmas.Grind.{common_steps}
use Rattle.wake_locks.specs.Expiries.{next_due, expiries, stopped, IsAdvance}
use Rattle.wake_locks.specs.Locks.{LockState, new_lock, lock_after_call, AreBefore, AreSortedByName, ExpiriesAreDue}
use Rattle.wake_locks.proofs.Expired.{Next, due_count, made_there, matched, unmatched, due_there, after_there, next_is_due, none_more, go_on, count_few, none_counted, none_due, failed, failed_same, at_failed, made_so_far, made_before, made_fewer}
use Rattle.wake_locks.proofs.Sooner.{other_set}
use Rattle.sleep_model.specs.declared.machine.SourceCall.TheVariants.{Expire}
use Rattle.wake_locks.specs.LockFields.{NoneEndsBefore, NoOtherEndsBefore}
use Rattle.wake_locks.proofs.locks.WakeLocks.advance.Goals as goal

pub loop-init : goal.loop-init
loop-init g c =
    let many : c.len-many.result ≡ length c.args.self.now = omega (arith, c.len-many.ensures, ap (λ (xs : List LockState). length xs) c.self.view_is) in
    record { many_is = many; so_far = refl; time = c.requires.time; left = omega (arith, many, count_few c.args.to c.args.self.now) }

pub returns-in_default-clause-ended : goal.returns-in_default-clause-ended
returns-in_default-clause-ended g c =
    let none = unmatched c.loop.self (next_due c.args.to c.loop.self) c.in_default.ensures.found in
    subst (λ (xs : List LockState). expiries g.row.CAP c.args.to (length c.args.self.now) c.args.self.now ≡ stopped xs None) (sym c.in_default.ensures.same)
    (go_on g.row.CAP c.args.to c.loop.counter (c.len-many.result - c.loop.counter) (length c.args.self.now) c.args.self.now c.loop.self (omega (arith, c.loop.invariant.many_is, c.loop-test.true)) c.loop.invariant.so_far
    ∙ none_more g.row.CAP c.args.to (c.len-many.result - c.loop.counter) c.loop.self none)

pub returns-in_default-clause-timely : goal.returns-in_default-clause-timely
returns-in_default-clause-timely g c =
    subst (ExpiriesAreDue c.args.to) (sym c.in_default.ensures.same)
    (record { before = c.loop.invariant.time; none_due = none_due c.args.to c.loop.self (unmatched c.loop.self (next_due c.args.to c.loop.self) c.in_default.ensures.found) })

pub call_at-requires : goal.call_at-requires
call_at-requires g c =
    let locks = c.next_due.new.self in
    let found = c.in-Some.found in
    let n = subst (λ (xs : List LockState). Next c.args.to xs found.at found.end) (sym c.in-Some.ensures.same) (matched c.args.to c.loop.self found.at found.end c.in-Some.ensures.found) in (
      omega arith,
      (
        n.in_range,
        (
          (λ d. after_there c.args.to locks found.at found.end d n),
          (omega (arith, n.end_is, next_is_due c.args.to locks n.due n.is, c.requires.small), (λ d. due_there c.args.to locks found.at found.end d n)),
        ),
      ),
    )

pub returns-in_err-call_at-clause-ended : goal.returns-in_err-call_at-clause-ended
returns-in_err-call_at-clause-ended g c =
    let locks = c.next_due.new.self in
    let found = c.in-Some.found in
    let same = sym c.in-Some.ensures.same in
    let n = subst (λ (xs : List LockState). Next c.args.to xs found.at found.end) same (matched c.args.to c.loop.self found.at found.end c.in-Some.ensures.found) in
    let so_far = subst (λ (xs : List LockState). expiries g.row.CAP c.args.to c.loop.counter c.args.self.now ≡ stopped xs None) same c.loop.invariant.so_far in
    let is : c.from_residual.result ≡ Err c.in_err-call_at.field-0.0 = grind (arith, common_steps) in
    let ended = at_failed g.row.CAP found.at found.end (new_lock []) locks c.call_at.new.self c.call_at.result c.in_err-call_at.field-0.0 c.in_err-call_at.was (c.call_at.ensures (new_lock [])) in
    subst (IsAdvance g.row.CAP c.args.to c.args.self.now c.call_at.new.self) (sym is)
    (failed g.row.CAP c.args.to found.at found.end (new_lock []) c.args.self.now locks c.call_at.new.self n c.loop.counter so_far c.in_err-call_at.field-0.0
    (omega (arith, c.loop.invariant.many_is, c.loop-test.true)) ended)

pub returns-in_err-call_at-clause-time : goal.returns-in_err-call_at-clause-time
returns-in_err-call_at-clause-time g c =
    let locks = c.next_due.new.self in
    let found = c.in-Some.found in
    let time = subst (AreBefore c.args.to) (sym c.in-Some.ensures.same) c.loop.invariant.time in
    let ended = at_failed g.row.CAP found.at found.end (new_lock []) locks c.call_at.new.self c.call_at.result c.in_err-call_at.field-0.0 c.in_err-call_at.was (c.call_at.ensures (new_lock [])) in
    subst (AreBefore c.args.to) (sym (failed_same g.row.CAP found.at found.end (new_lock []) locks c.call_at.new.self c.in_err-call_at.field-0.0 ended)) time

pub loop-preserved : goal.loop-preserved
loop-preserved g c =
    let locks = c.next_due.new.self in
    let found = c.in-Some.found in
    let same = sym c.in-Some.ensures.same in
    let n = subst (λ (xs : List LockState). Next c.args.to xs found.at found.end) same (matched c.args.to c.loop.self found.at found.end c.in-Some.ensures.found) in
    let so_far = subst (λ (xs : List LockState). expiries g.row.CAP c.args.to c.loop.counter c.args.self.now ≡ stopped xs None) same c.loop.invariant.so_far in
    let time = subst (AreBefore c.args.to) same c.loop.invariant.time in
    let left = subst (λ (xs : List LockState). due_count c.args.to xs + c.loop.counter ≤ c.len-many.result) same c.loop.invariant.left in
    let in_order = subst AreSortedByName same c.in-Some.ensures.ordered in
    let w = c.in_ok-call_at.ensures (new_lock []) in
    let fewer = made_fewer g.row.CAP c.args.to found.at found.end (new_lock []) c.args.self.now locks c.call_at.new.self n c.loop.counter so_far _ w in_order in
    let back = sym c.self-in-loop.view_is in
    let fewer_left : due_count c.args.to c.call_at.new.self + (c.loop.counter + 1) ≤ c.len-many.result = omega (arith, fewer, left) in
    record {
      many_is = c.loop.invariant.many_is;
      so_far = subst (λ (xs : List LockState). expiries g.row.CAP c.args.to (c.loop.counter + 1) c.args.self.now ≡ stopped xs None) back
          (made_so_far g.row.CAP c.args.to found.at found.end (new_lock []) c.args.self.now locks c.call_at.new.self n c.loop.counter so_far _ w);
      time = subst (AreBefore c.args.to) back (made_before g.row.CAP c.args.to found.at found.end (new_lock []) c.args.self.now locks c.call_at.new.self n c.loop.counter so_far _ w time);
      left = subst (λ (xs : List LockState). due_count c.args.to xs + (c.loop.counter + 1) ≤ c.len-many.result) back fewer_left;
    }

pub invariant_of-self : goal.invariant_of-self
invariant_of-self g c =
    let locks = c.next_due.new.self in
    let found = c.in-Some.found in
    let same = sym c.in-Some.ensures.same in
    let n = subst (λ (xs : List LockState). Next c.args.to xs found.at found.end) same (matched c.args.to c.loop.self found.at found.end c.in-Some.ensures.found) in
    let so_far = subst (λ (xs : List LockState). expiries g.row.CAP c.args.to c.loop.counter c.args.self.now ≡ stopped xs None) same c.loop.invariant.so_far in
    let in_order = subst AreSortedByName same c.in-Some.ensures.ordered in
    let others = subst (NoOtherEndsBefore found.others found.at) same c.in-Some.ensures.others in
    let w = c.in_ok-call_at.ensures (new_lock []) in
    let is = made_there g.row.CAP c.args.to found.at found.end (new_lock []) c.args.self.now locks c.call_at.new.self n c.loop.counter so_far _ w in_order in
    record {
      in_order = c.self-in-loop.invariant.in_order;
      few = c.self-in-loop.invariant.few;
      places_few = c.self-in-loop.invariant.places_few;
      none_sooner = subst (NoneEndsBefore found.others) (sym (c.self-in-loop.view_is ∙ is)) (other_set found.others found.at locks (lock_after_call Expire found.end (get_or locks found.at (new_lock []))) c.in-Some.ensures.few others);
      floors_are = c.self-in-loop.invariant.floors_are;
    }

pub returns-clause-timely : goal.returns-clause-timely
returns-clause-timely g c =
    record { before = c.loop.invariant.time; none_due = none_counted c.args.to c.loop.self (omega (arith, c.loop.invariant.left, c.loop-test.false)) }
