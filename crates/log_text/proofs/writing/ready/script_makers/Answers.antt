-- Proof by hand of `script_makers`: its loop.
use Rattle.std.proofs.Common.{arith}
use Rattle.std.proofs.lemmas.Grind.{common_steps}
use Rattle.log_text.proofs.writing.ready.script_makers.Goals as goal

pub loop-script-preserved : goal.loop-script-preserved
loop-script-preserved c = grind (arith, common_steps)
