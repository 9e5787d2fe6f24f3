-- Proof that `jumps_keep_all_known` meets its contract.
use Rattle.run_laws.proofs.laws.jumps_keep_all_known.Goals as goal
use Rattle.run_laws.proofs.Turned.{leap_grows}

pub returns : goal.returns
returns c = leap_grows
