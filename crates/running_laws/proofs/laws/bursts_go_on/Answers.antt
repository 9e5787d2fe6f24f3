-- The law `bursts_go_on`, by the lemmas of `GoingBursts`.
use Rattle.running_laws.proofs.laws.bursts_go_on.Goals as goal
use Rattle.running_laws.proofs.GoingBursts.{bursts_go_on}

pub returns : goal.returns
returns c = bursts_go_on
