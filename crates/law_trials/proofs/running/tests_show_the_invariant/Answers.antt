-- Proof by hand of `tests_show_the_invariant`: what it returns, by the lemmas of `RunShown`.
use Rattle.law_trials.proofs.running.tests_show_the_invariant.Goals as goal
use Rattle.law_trials.proofs.RunShown.{tests_show}

pub returns : goal.returns
returns c = tests_show
