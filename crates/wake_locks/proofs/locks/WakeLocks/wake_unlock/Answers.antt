-- Proof that `WakeLocks::wake_unlock` meets its contract, and that it meets what `call_at` requires.
use Rattle.std.proofs.Common.{Result, [], get_or, refl, sym, subst, arith}
use Rattle.sleep_model.specs.declared.machine.SourceCall.TheVariants.{Relax}
use Rattle.wake_locks.specs.declared.answer.LockAnswer.{LockAnswer}
use Rattle.wake_locks.specs.declared.answer.LockAnswer.TheVariants.{BadText}
use Rattle.std.proofs.Common.{Ok}
use Rattle.wake_locks.specs.Locks.{new_lock}
use Rattle.wake_locks.specs.Writes.{Asked, WriteEnded}
use Rattle.wake_locks.proofs.Placed.{before_at}
use Rattle.wake_locks.proofs.Written.{unlock_known, unlock_new}
use Rattle.wake_locks.proofs.Timely.{timely_at}
use Rattle.wake_locks.proofs.locks.WakeLocks.wake_unlock.Goals as goal

pub call_at-requires : goal.call_at-requires
call_at-requires g c =
    let found = c.in-Ok.ensures.found in
    (omega arith, (found.in_range, ((λ d. before_at c.args.now c.args.self.now c.requires.timely.before c.in-Ok.at d found.in_range), (c.requires.small, (λ d. tt)))))

pub returns-in-Ok-clause-ended : goal.returns-in-Ok-clause-ended
returns-in-Ok-clause-ended g c =
    subst (λ (a : Result Asked LockAnswer). WriteEnded g.row.CAP a c.args.now c.args.self.now c.call_at.new.self c.call_at.result)
    (sym (unlock_known c.args.text.now _ c.args.self.now c.in-Ok.at (new_lock []) (sym c.in-Some.ensures) c.in-Ok.ensures.found)) (c.call_at.ensures (new_lock []))

pub returns-in-Err-clause-ended : goal.returns-in-Err-clause-ended
returns-in-Err-clause-ended g c =
    subst (λ (a : Result Asked LockAnswer). WriteEnded g.row.CAP a c.args.now c.args.self.now c.args.self.now (Ok BadText))
    (sym (unlock_new c.args.text.now _ c.args.self.now c.in-Err.field-0 (sym c.in-Some.ensures) c.in-Err.ensures.absent)) (refl, refl, tt)

pub returns-in-Ok-clause-timely : goal.returns-in-Ok-clause-timely
returns-in-Ok-clause-timely g c = timely_at g.row.CAP (get_or c.args.self.now c.in-Ok.at (new_lock [])) Relax c.args.now c.args.self.now c.call_at.new.self c.call_at.result (c.call_at.ensures (new_lock [])) tt c.requires.timely
