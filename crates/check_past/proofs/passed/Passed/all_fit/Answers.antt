-- Proof by hand of `all_fit`: what it returns, by the lemmas of `Answers`.
use Rattle.check_past.proofs.Answers.{all_passed}
use Rattle.check_past.proofs.passed.Passed.all_fit.Goals as goal

pub returns : goal.returns
returns c =
    let f = c.self.inside in
    rw (← c.self.view_is) (all_passed f.machine.now f.passed f.entries.now c.self.invariant.passage.fits)
