-- The law `bursts_are_serial`, by the lemmas of `SerialBursts`.
use Rattle.running_laws.proofs.laws.bursts_are_serial.Goals as goal
use Rattle.running_laws.proofs.SerialBursts.{bursts_are_serial}

pub returns : goal.returns
returns c = bursts_are_serial
