-- The law `bursts_grow`, by the lemmas of `SerialGrowth`.
use Rattle.running_laws.proofs.laws.bursts_grow.Goals as goal
use Rattle.running_laws.proofs.SerialGrowth.{bursts_grow}

pub returns : goal.returns
returns c = bursts_grow
