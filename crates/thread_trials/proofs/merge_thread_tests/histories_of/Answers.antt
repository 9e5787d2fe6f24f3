-- Proof that there is room in the loop of `histories_of`, and that it keeps its invariant.
use Rattle.std.proofs.Common.{arith}
use Rattle.thread_trials.proofs.merge_thread_tests.histories_of.Goals as goal

pub push_reserved-requires : goal.push_reserved-requires
push_reserved-requires c = omega (arith, c.loop-history.invariant, c.in-Some.ensures.steps.1)

pub loop-history-preserved : goal.loop-history-preserved
loop-history-preserved c = omega (arith, c.loop-history.invariant, c.in-Some.ensures.steps.1, c.push_reserved.ensures.len, c.push_reserved.ensures.capacity)
