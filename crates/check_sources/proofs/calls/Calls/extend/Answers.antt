-- Proof that the loop of `extend` keeps its invariant.
use Rattle.std.proofs.Common.{arith}
use Rattle.std.proofs.lemmas.Grind.{common_steps}
use Rattle.check_sources.proofs.calls.Calls.extend.Goals as goal

pub loop-report-preserved : goal.loop-report-preserved
loop-report-preserved c = grind (arith, common_steps)
