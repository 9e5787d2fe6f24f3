-- Proof that `invariant_begins` meets its contract.
use Rattle.run_laws.proofs.laws.invariant_begins.Goals as goal
use Rattle.run_laws.proofs.Invariant.{invariant_begins}

pub returns : goal.returns
returns c = invariant_begins
