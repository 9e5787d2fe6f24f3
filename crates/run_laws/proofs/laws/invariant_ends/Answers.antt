-- Proof that `invariant_ends` meets its contract.
use Rattle.run_laws.proofs.laws.invariant_ends.Goals as goal
use Rattle.run_laws.proofs.Premises.{ends_legal}

pub returns : goal.returns
returns c = ends_legal
