-- Proof by hand of `source`: what it returns, by the lemmas of `Answers`.
use Rattle.std.proofs.Common.{◌∙◌, ap}
use Rattle.check_past.specs.declared.past_state.PastState.{PastState}
use Rattle.check_past.specs.PassedFields.{passage}
use Rattle.check_past.specs.Passing.{past_of}
use Rattle.check_past.proofs.Answers.{all_passed, any_source}
use Rattle.check_past.proofs.passed.Passed.source.Goals as goal

pub returns : goal.returns
returns c =
    let f = c.self.inside in
    let fits = all_passed f.machine.now f.passed f.entries.now c.self.invariant.passage.fits in
    rw (← c.self.view_is) (c.source.ensures ∙ any_source f.machine.now (past_of (passage f)) c.args.number c.deref.result.now.sources (ap (λ (k : PastState). k.sources) c.deref.ensures ∙ c.self.invariant.holds.sources) fits)
