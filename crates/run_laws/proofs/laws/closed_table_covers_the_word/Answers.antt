-- Proof that `closed_table_covers_the_word` meets its contract.
use Rattle.run_laws.proofs.laws.closed_table_covers_the_word.Goals as goal
use Rattle.run_laws.proofs.ClosedOver.{table_covers}

pub returns : goal.returns
returns c = table_covers
