-- Proof that `invariant_merges` meets its contract.
use Rattle.run_laws.proofs.laws.invariant_merges.Goals as goal
use Rattle.run_laws.proofs.Premises.{merges}

pub returns : goal.returns
returns c = merges
