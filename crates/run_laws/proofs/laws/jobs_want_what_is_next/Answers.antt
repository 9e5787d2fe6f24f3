-- Proof that `jobs_want_what_is_next` meets its contract.
use Rattle.run_laws.proofs.laws.jobs_want_what_is_next.Goals as goal
use Rattle.run_laws.proofs.Jobs.{jobs_want_next}

pub returns : goal.returns
returns c = jobs_want_next
