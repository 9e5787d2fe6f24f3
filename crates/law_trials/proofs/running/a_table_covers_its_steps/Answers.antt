-- Proof by hand of `a_table_covers_its_steps`: what it returns, by the lemmas of `Tabled`.
use Rattle.law_trials.proofs.running.a_table_covers_its_steps.Goals as goal
use Rattle.law_trials.proofs.Tabled.{is_closed_over}

pub returns-clause-closed_over : goal.returns-clause-closed_over
returns-clause-closed_over c = is_closed_over
