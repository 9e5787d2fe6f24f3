-- The invariant of a run, by the fields of its value.
use Rattle.std.proofs.Common.{◌≡◌, subst}
use Rattle.machine_rounds.specs.declared.run.Run.TheInside.{Inside}
use Rattle.running_laws.specs.Running.{IsRunning}
use Rattle.machine_rounds.specs.JobsOf.{AreAllJobs, job_at}
use Rattle.machine_rounds.specs.RunFields.{RunFieldsInvariant, state}
use Rattle.machine_rounds.specs.Runs.{RunState}

-- it goes on
pub goes_on : (r : Inside) (s : RunState) → state r ≡ s → RunFieldsInvariant r → IsRunning s.machine s.journal s.sources (job_at r.jobs) s.floor
goes_on r s is k = subst (λ (x : RunState). IsRunning x.machine x.journal x.sources (job_at r.jobs) x.floor) is k.running

-- each actor has its job
pub has_all : (r : Inside) (s : RunState) → state r ≡ s → RunFieldsInvariant r → AreAllJobs s.machine r.jobs
has_all r s is k = subst (λ (x : RunState). AreAllJobs x.machine r.jobs) is k.all_jobs
