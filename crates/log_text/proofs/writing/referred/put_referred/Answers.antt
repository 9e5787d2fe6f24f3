-- Proof by hand of `put_referred`: its loop.
use Rattle.std.proofs.Common.{arith}
use Rattle.std.proofs.lemmas.Grind.{common_steps}
use Rattle.log_text.proofs.writing.referred.put_referred.Goals as goal

pub loop-one-preserved : goal.loop-one-preserved
loop-one-preserved c = grind (arith, common_steps)
