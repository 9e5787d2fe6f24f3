-- Proof that the loop of `push_jobs` keeps its invariant.
use Rattle.std.proofs.Common.{arith}
use Rattle.std.proofs.lemmas.Grind.{common_steps}
use Rattle.machine_rounds.proofs.tasks.push_jobs.Goals as goal

pub loop-job-preserved : goal.loop-job-preserved
loop-job-preserved c = grind (arith, common_steps)
