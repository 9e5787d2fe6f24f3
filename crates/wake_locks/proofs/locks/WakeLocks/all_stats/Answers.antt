-- Proof that the loop of `WakeLocks::all_stats` keeps its invariant, and that it meets what `lock_stats` requires.
use Rattle.std.proofs.Common.{◌≤◌, ◌∙◌, get_or, sym, subst, arith}
use Rattle.std.proofs.lemmas.Grind.{common_steps}
use Rattle.wake_locks.specs.Counted.{StatusAgrees}
use Rattle.wake_locks.proofs.Agreeing.{agree_more}
use Rattle.wakeup_source.specs.SourceStates.{latest}
use Rattle.wake_locks.specs.Locks.{LockState, AreBefore}
use Rattle.wake_locks.proofs.Placed.{before_at}
use Rattle.wake_locks.proofs.locks.WakeLocks.all_stats.Goals as goal

pub lock_stats-requires : goal.lock_stats-requires
lock_stats-requires g c =
    let lock = c.lock-item.result in
    let items = c.deref-lock-items.result.now in
    let before = subst (AreBefore c.args.now) (sym (c.deref-lock-items.ensures.value ∙ c.self.view_is)) c.requires.time in
    let time : latest lock.own ≤ c.args.now = subst (λ (x : LockState). latest x.own ≤ c.args.now) (sym c.lock-item.is) (before_at c.args.now items before c.loop-lock.lock-index lock c.loop-lock-test.true) in
    (omega arith, (time, c.requires.small))

pub loop-lock-preserved : goal.loop-lock-preserved
loop-lock-preserved g c =
    let lock = c.lock-item.result in
    let one : StatusAgrees (get_or c.deref-lock-items.result.now c.loop-lock.lock-index lock) = subst StatusAgrees c.lock-item.is c.lock_stats.ensures.agrees in
    record {
      lock_stats = grind (arith, common_steps);
      agree = agree_more c.loop-lock.lock-index c.deref-lock-items.result.now lock c.loop-lock-test.true c.loop-lock.invariant.agree one;
    }
