-- Proof that the loop of `first_statuses` keeps its invariant.
use Rattle.std.proofs.Common.{arith}
use Rattle.std.proofs.lemmas.Grind.{common_steps}
use Rattle.sleep_state.proofs.devices.first_statuses.Goals as goal

pub loop-device-preserved : goal.loop-device-preserved
loop-device-preserved c = grind (arith, common_steps)
