-- Proof by hand of `passes_have_makers`: what it returns, by the lemmas of `Passed`.
use Rattle.std.proofs.Common.{◌≡◌, true, false, arith}
use Rattle.law_trials.proofs.running.passes_have_makers.Goals as goal
use Rattle.law_trials.proofs.Passed.{have_makers}

pub returns-clause-made : goal.returns-clause-made
returns-clause-made c = have_makers

pub returns-clause-same : goal.returns-clause-same
returns-clause-same c = λ have. absurd (let bad : false ≡ true = have.own 1 (omega arith) in cc)
