-- Proof that `WakeLocks::call_new` meets its contract.
use Rattle.std.proofs.Common.{◌<◌, List, length, subst, arith}
use Rattle.wake_locks.specs.Locks.{LockState, new_lock}
use Rattle.wake_locks.proofs.Written.{Called, new_ended, new_failed}
use Rattle.wake_locks.proofs.locks.WakeLocks.call_new.Goals as goal

pub returns-in-Ok : goal.returns-in-Ok
returns-in-Ok g c =
    let few : length c.args.self.now < 100 = subst (λ (xs : List LockState). length xs < 100) c.self.view_is (omega (arith, c.if-len-ge-MOST_LOCKS.false, c.len.ensures)) in
    let first : Called g.row.CAP c.args.call c.args.now (new_lock c.args.name) c.call.new.self c.call.result =
    subst (λ (x : LockState). Called g.row.CAP c.args.call c.args.now x c.call.new.self c.call.result) c.new-lock.ensures
    (record { done = c.call.ensures.done; full = c.call.ensures.full; err = c.call.ensures.err }) in
    new_ended g.row.CAP c.args.name c.args.call c.args.now c.args.self.now c.insert.new.self c.call.new.self c.insert.result few
    (subst (Called g.row.CAP c.args.call c.args.now (new_lock c.args.name) c.call.new.self) c.in-Ok.is first) c.insert.ensures.ok c.insert.ensures.err c.insert.ensures.answer

pub returns-in-Err : goal.returns-in-Err
returns-in-Err g c =
    let few : length c.args.self.now < 100 = subst (λ (xs : List LockState). length xs < 100) c.self.view_is (omega (arith, c.if-len-ge-MOST_LOCKS.false, c.len.ensures)) in
    let first : Called g.row.CAP c.args.call c.args.now (new_lock c.args.name) c.call.new.self c.call.result =
    subst (λ (x : LockState). Called g.row.CAP c.args.call c.args.now x c.call.new.self c.call.result) c.new-lock.ensures
    (record { done = c.call.ensures.done; full = c.call.ensures.full; err = c.call.ensures.err }) in
    new_failed g.row.CAP c.args.name c.args.call c.args.now c.args.self.now c.call.new.self c.in-Err.fault few
    (subst (Called g.row.CAP c.args.call c.args.now (new_lock c.args.name) c.call.new.self) c.in-Err.is first)
