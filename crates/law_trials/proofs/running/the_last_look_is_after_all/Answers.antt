-- Proof by hand of `the_last_look_is_after_all`: what it returns.
use Rattle.std.proofs.Common.{◌≡◌, true, false}
use Rattle.law_trials.proofs.running.the_last_look_is_after_all.Goals as goal

pub returns-clause-older : goal.returns-clause-older
returns-clause-older c = λ last. absurd (let bad : false ≡ true = last.behind 0 in cc)
