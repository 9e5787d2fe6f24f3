-- Proof by hand of `calls_and_turns_are_ready_or_not`: what it returns.
use Rattle.std.proofs.Common.{◌≡◌, true, false}
use Rattle.law_trials.proofs.running.calls_and_turns_are_ready_or_not.Goals as goal

pub returns-clause-short : goal.returns-clause-short
returns-clause-short c = λ leap. absurd (let bad : false ≡ true = leap.all.1 0 in cc)
