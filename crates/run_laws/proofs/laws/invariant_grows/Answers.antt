-- Proof that `invariant_grows` meets its contract.
use Rattle.run_laws.proofs.laws.invariant_grows.Goals as goal
use Rattle.run_laws.proofs.Invariant.{grows}

pub returns : goal.returns
returns c = grows
