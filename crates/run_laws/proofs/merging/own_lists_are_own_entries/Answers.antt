-- Proof that `own_lists_are_own_entries` meets its contract.
use Rattle.run_laws.proofs.merging.own_lists_are_own_entries.Goals as goal
use Rattle.run_laws.proofs.Owned.{own_lists}

pub returns : goal.returns
returns c = own_lists
