-- Proof that there is room in the loop of `split`, and that it keeps its invariant.
use Rattle.std.proofs.Common.{arith}
use Rattle.std.proofs.lemmas.Grind.{common_steps}
use Rattle.thread_trials.proofs.lock_thread_tests.split.Goals as goal

pub push_reserved-requires : goal.push_reserved-requires
push_reserved-requires c = omega (arith, c.loop-worker.invariant.1, c.in-Some.ensures.steps.1)

pub push_reserved-requires-in-loop-worker : goal.push_reserved-requires-in-loop-worker
push_reserved-requires-in-loop-worker c = omega (arith, c.loop-worker.invariant.2, c.in-Some.ensures.steps.1)

pub loop-worker-preserved : goal.loop-worker-preserved
loop-worker-preserved c =
    let is = c.loop-worker.invariant in (
      grind (arith, common_steps, is.0, c.push_reserved.ensures.items),
      omega (arith, is.1, c.in-Some.ensures.steps.1, c.push_reserved.ensures.len, c.push_reserved.ensures.capacity),
      omega (arith, is.2, c.in-Some.ensures.steps.1, c.push_reserved-in-loop-worker.ensures.len, c.push_reserved-in-loop-worker.ensures.capacity),
    )
