-- Proof that `merges_to_a_stuck_log` meets its contract.
use Rattle.run_laws.proofs.merging.merges_to_a_stuck_log.Goals as goal
use Rattle.run_laws.proofs.Whole.{merges_to_stuck}

pub returns : goal.returns
returns c = merges_to_stuck
