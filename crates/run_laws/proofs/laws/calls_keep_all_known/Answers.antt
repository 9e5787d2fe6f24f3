-- Proof that `calls_keep_all_known` meets its contract.
use Rattle.run_laws.proofs.laws.calls_keep_all_known.Goals as goal
use Rattle.run_laws.proofs.Called.{call_grows}

pub returns : goal.returns
returns c = call_grows
