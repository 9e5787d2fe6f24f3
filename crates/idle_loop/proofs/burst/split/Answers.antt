-- Proof by hand of `split`: the call of `taken` and its loop, by the lemmas of `Gathering`.
use Rattle.std.proofs.Common.{List, subst, arith}
use Rattle.idle_loop.specs.declared.worker.IdleWorker.{IdleWorker}
use Rattle.idle_loop.specs.WorkerPools.{HavePasses}
use Rattle.idle_loop.proofs.Gathering.{split_more, there_some}
use Rattle.idle_loop.proofs.burst.split.Goals as goal

pub taken-requires : goal.taken-requires
taken-requires c = there_some _ (subst (λ (l : List IdleWorker). HavePasses l) c.in-Some.ensures.steps.0 c.loop-worker.invariant.1).0

pub push_reserved-requires : goal.push_reserved-requires
push_reserved-requires c = omega (arith, c.loop-worker.invariant.2, c.in-Some.ensures.steps.1)

pub push_reserved-requires-in-loop-worker : goal.push_reserved-requires-in-loop-worker
push_reserved-requires-in-loop-worker c = omega (arith, c.loop-worker.invariant.3, c.in-Some.ensures.steps.1)

pub loop-worker-preserved-in-Some : goal.loop-worker-preserved-in-Some
loop-worker-preserved-in-Some c =
    let is = c.loop-worker.invariant in (
      rw (c.push_reserved.ensures.items) (rw (c.push_reserved-in-loop-worker.ensures.items) (split_more c.loop-worker.yielded c.loop-worker.roles.items c.loop-worker.passes.items c.in-Some.worker c.taken.result is.0 c.taken.ensures)),
      (subst (λ (l : List IdleWorker). HavePasses l) c.in-Some.ensures.steps.0 is.1).1,
      omega (arith, is.2, c.in-Some.ensures.steps.1, c.push_reserved.ensures.len, c.push_reserved.ensures.capacity),
      omega (arith, is.3, c.in-Some.ensures.steps.1, c.push_reserved-in-loop-worker.ensures.len, c.push_reserved-in-loop-worker.ensures.capacity),
    )

pub loop-worker-preserved : goal.loop-worker-preserved
loop-worker-preserved c =
    let is = c.loop-worker.invariant in (
      rw (c.push_reserved.ensures.items) (rw (c.push_reserved-in-loop-worker.ensures.items) (split_more c.loop-worker.yielded c.loop-worker.roles.items c.loop-worker.passes.items c.in-Some.worker c.taken.result is.0 c.taken.ensures)),
      (subst (λ (l : List IdleWorker). HavePasses l) c.in-Some.ensures.steps.0 is.1).1,
      omega (arith, is.2, c.in-Some.ensures.steps.1, c.push_reserved.ensures.len, c.push_reserved.ensures.capacity),
      omega (arith, is.3, c.in-Some.ensures.steps.1, c.push_reserved-in-loop-worker.ensures.len, c.push_reserved-in-loop-worker.ensures.capacity),
    )
