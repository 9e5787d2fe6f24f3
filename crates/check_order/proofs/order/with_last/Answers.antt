-- Proof that the loop of `with_last` keeps its invariant.
use Rattle.std.proofs.Common.{arith}
use Rattle.std.proofs.lemmas.Grind.{common_steps}
use Rattle.check_order.proofs.order.with_last.Goals as goal

pub loop-device-preserved : goal.loop-device-preserved
loop-device-preserved c = grind (arith, common_steps)
