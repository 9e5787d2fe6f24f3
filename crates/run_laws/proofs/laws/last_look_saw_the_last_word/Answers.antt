-- Proof that `last_look_saw_the_last_word` meets its contract.
use Rattle.run_laws.proofs.laws.last_look_saw_the_last_word.Goals as goal
use Rattle.run_laws.proofs.ClosedOver.{looks_last}

pub returns : goal.returns
returns c = looks_last
