-- Proof that `settled_sources_free_all` meets its contract.
use Rattle.run_laws.proofs.laws.settled_sources_free_all.Goals as goal
use Rattle.run_laws.proofs.Jobs.{settled_is_free}

pub returns : goal.returns
returns c = settled_is_free
