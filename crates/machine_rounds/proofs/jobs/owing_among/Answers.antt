-- Proof that the loop of `owing_among` keeps its invariant, and that it meets what `more_owing` requires.
use Rattle.std.proofs.Common.{ap, arith}
use Rattle.sleep_model.specs.Places.{one_if}
use Rattle.machine_rounds.proofs.Owing.{owing_more, few_of}
use Rattle.machine_rounds.proofs.jobs.owing_among.Goals as goal

pub more_owing-owing-requires : goal.more_owing-owing-requires
more_owing-owing-requires c = omega (arith, c.loop-job.invariant, few_of c.args.jobs.now c.loop-job.job-index, c.requires)

pub loop-job-preserved : goal.loop-job-preserved
loop-job-preserved c =
    omega (arith, c.more_owing-owing.ensures, c.loop-job.invariant, ap one_if c.owes.ensures, owing_more c.args.jobs.now c.loop-job.job-index c.job-item.result c.loop-job-test.true c.job-item.is)
