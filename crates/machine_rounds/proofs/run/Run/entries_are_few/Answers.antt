-- Proof that `Run::entries_are_few` meets its contract.
use Rattle.running_laws.proofs.Few.{run_few}
use Rattle.machine_rounds.specs.JobsOf.{job_at}
use Rattle.machine_rounds.proofs.Fields.{goes_on}
use Rattle.machine_rounds.proofs.run.Run.entries_are_few.Goals as goal

pub returns : goal.returns
returns c =
    let r = c.self.inside in
    let s = c.args.self.now in
    run_few s.machine s.journal s.sources (job_at r.jobs) (goes_on r s c.self.view_is c.self.invariant)
