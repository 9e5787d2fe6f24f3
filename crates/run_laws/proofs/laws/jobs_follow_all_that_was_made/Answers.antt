-- Proof that `jobs_follow_all_that_was_made` meets its contract.
use Rattle.run_laws.proofs.laws.jobs_follow_all_that_was_made.Goals as goal
use Rattle.run_laws.proofs.Jobs.{jobs_follow}

pub returns : goal.returns
returns c = jobs_follow
