-- Proof that the loop of `draw_parents` keeps its invariant.
use Rattle.std.proofs.Common.{arith}
use Rattle.std.proofs.lemmas.Grind.{common_steps}
use Rattle.std.proofs.lemmas.Bool.Decides.{nat_tests}
use Rattle.sleep_script.proofs.Drawn.{more_parents}
use Rattle.sleep_script.proofs.generator.draw_parents.Goals as goal

pub loop-device-preserved : goal.loop-device-preserved
loop-device-preserved c =
    let more = more_parents c.args.draws.now.seed c.loop-device.device (omega arith) in
    grind (arith, common_steps, nat_tests)
