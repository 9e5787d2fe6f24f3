-- Proof that `turns_keep_all_known` meets its contract.
use Rattle.run_laws.proofs.laws.turns_keep_all_known.Goals as goal
use Rattle.run_laws.proofs.Turned.{turn_grows}

pub returns : goal.returns
returns c = turn_grows
