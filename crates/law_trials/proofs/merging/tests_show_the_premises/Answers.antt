-- Proof by hand of `tests_show_the_premises`: what it returns, by the lemmas of `MergeShown`.
use Rattle.law_trials.proofs.merging.tests_show_the_premises.Goals as goal
use Rattle.law_trials.proofs.MergeShown.{tests_show}

pub returns : goal.returns
returns c = tests_show
