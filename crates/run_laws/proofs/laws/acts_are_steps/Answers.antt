-- Proof that `acts_are_steps` meets its contract.
use Rattle.run_laws.proofs.laws.acts_are_steps.Goals as goal
use Rattle.run_laws.proofs.Acts.{acts_are_steps}

pub returns : goal.returns
returns c = acts_are_steps
