-- Proof that `log_says_who` meets its contract.
use Rattle.run_laws.proofs.laws.log_says_who.Goals as goal
use Rattle.run_laws.proofs.Passes.{log_says_who}

pub returns : goal.returns
returns c = λ _. log_says_who _ _
