-- Proof that there is room in the loop of `gathered`, and that it keeps its invariant.
use Rattle.std.proofs.Common.{arith}
use Rattle.std.proofs.lemmas.Grind.{common_steps}
use Rattle.thread_trials.proofs.word_thread_tests.gathered.Goals as goal

pub push_reserved-requires : goal.push_reserved-requires
push_reserved-requires c = omega (arith, c.loop-one.invariant.1, c.in-Some.ensures.steps.1)

pub loop-one-preserved : goal.loop-one-preserved
loop-one-preserved c =
    let is = c.loop-one.invariant in (
      grind (arith, common_steps, is.0, c.push_reserved.ensures.items),
      omega (arith, is.1, c.in-Some.ensures.steps.1, c.push_reserved.ensures.len, c.push_reserved.ensures.capacity),
    )
