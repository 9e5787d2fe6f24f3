-- Proof that `Run::core` meets its contract.
use Rattle.machine_rounds.specs.JobsOf.{job_at}
use Rattle.machine_rounds.proofs.Fields.{goes_on}
use Rattle.machine_rounds.proofs.run.Run.core.Goals as goal

pub returns-clause-kept : goal.returns-clause-kept
returns-clause-kept c =
    let r = c.self.inside in
    record { jobs = job_at r.jobs; running = goes_on r c.args.self.now c.self.view_is c.self.invariant }
