-- Proof that `lists_merge_to_a_legal_log` meets its contract.
use Rattle.run_laws.proofs.merging.lists_merge_to_a_legal_log.Goals as goal
use Rattle.run_laws.proofs.Fits.{lists_merge}

pub returns : goal.returns
returns c = lists_merge
