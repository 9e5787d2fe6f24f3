-- Proof that the loop of `all_steps` keeps its invariant.
use Rattle.std.proofs.Common.{arith}
use Rattle.std.proofs.lemmas.Grind.{common_steps}
use Rattle.file_rules.proofs.rules.limits.all_steps.Goals as goal

pub loop-script-preserved : goal.loop-script-preserved
loop-script-preserved c = grind (arith, common_steps)
