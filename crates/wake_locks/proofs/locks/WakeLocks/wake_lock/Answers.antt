-- Proof that `WakeLocks::wake_lock` meets its contract, and that it meets what `call_at` and `call_new` require.
use Rattle.std.proofs.Common.{Result, [], get_or, sym, subst, arith}
use Rattle.wake_locks.specs.declared.answer.LockAnswer.{LockAnswer}
use Rattle.wake_locks.specs.declared.status.LockStatus.TheVariants.{Inactive}
use Rattle.wake_locks.specs.Locks.{new_lock}
use Rattle.wake_locks.specs.Writes.{Asked, WriteEnded}
use Rattle.wake_locks.proofs.Placed.{before_at}
use Rattle.wake_locks.proofs.Written.{lock_meant, lock_known, lock_new}
use Rattle.wake_locks.proofs.Timely.{timely_at, timely_new}
use Rattle.wake_locks.proofs.locks.WakeLocks.wake_lock.Goals as goal

pub call_at-requires : goal.call_at-requires
call_at-requires g c =
    let found = c.in-Ok.ensures.found in (
      omega arith,
      (
        found.in_range,
        (
          (λ d. before_at c.args.now c.args.self.now c.requires.timely.before c.in-Ok.at d found.in_range),
          (c.requires.small, (λ d. lock_meant c.args.text.now _ c.args.now (get_or c.args.self.now c.in-Ok.at d).status (sym c.in-Some.ensures))),
        ),
      ),
    )

pub call_new-requires : goal.call_new-requires
call_new-requires g c = (omega arith, (c.in-Err.ensures.absent, (c.requires.small, lock_meant c.args.text.now _ c.args.now Inactive (sym c.in-Some.ensures))))

pub returns-in-Ok-clause-ended : goal.returns-in-Ok-clause-ended
returns-in-Ok-clause-ended g c =
    subst (λ (a : Result Asked LockAnswer). WriteEnded g.row.CAP a c.args.now c.args.self.now c.call_at.new.self c.call_at.result)
    (sym (lock_known c.args.text.now _ c.args.self.now c.in-Ok.at (new_lock []) (sym c.in-Some.ensures) c.in-Ok.ensures.found)) (c.call_at.ensures (new_lock []))

pub returns-in-Err-clause-ended : goal.returns-in-Err-clause-ended
returns-in-Err-clause-ended g c =
    subst (λ (a : Result Asked LockAnswer). WriteEnded g.row.CAP a c.args.now c.args.self.now c.call_new.new.self c.call_new.result)
    (sym (lock_new c.args.text.now _ c.args.self.now c.in-Err.at (sym c.in-Some.ensures) c.in-Err.ensures.absent)) c.call_new.ensures

pub returns-in-Ok-clause-timely : goal.returns-in-Ok-clause-timely
returns-in-Ok-clause-timely g c =
    timely_at g.row.CAP (get_or c.args.self.now c.in-Ok.at (new_lock [])) _ c.args.now c.args.self.now c.call_at.new.self c.call_at.result (c.call_at.ensures (new_lock []))
    (lock_meant c.args.text.now _ c.args.now (get_or c.args.self.now c.in-Ok.at (new_lock [])).status (sym c.in-Some.ensures)) c.requires.timely

pub returns-in-Err-clause-timely : goal.returns-in-Err-clause-timely
returns-in-Err-clause-timely g c =
    timely_new g.row.CAP _ _ _ c.args.now c.args.self.now c.call_new.new.self c.call_new.result c.call_new.ensures (lock_meant c.args.text.now _ c.args.now Inactive (sym c.in-Some.ensures)) c.requires.timely
