-- Proof by hand of `next_call`: what it returns, by the lemmas of `Answers`.
use Rattle.std.proofs.Common.{◌∙◌, ap, ap₂, slice_get, List, ℕ}
use Rattle.sleep_model.specs.declared.entry.Kind.{Kind}
use Rattle.check_past.specs.declared.past_state.PastState.{PastState}
use Rattle.check_past.specs.PassedFields.{passage}
use Rattle.check_past.specs.Passing.{past_of}
use Rattle.check_past.proofs.Answers.{made_is, calls_are, all_passed}
use Rattle.check_past.proofs.passed.Passed.next_call.Goals as goal

pub returns : goal.returns
returns c =
    let f = c.self.inside in
    let fits = all_passed f.machine.now f.passed f.entries.now c.self.invariant.passage.fits in
    let who = rw (← c.self.view_is) at c.requires in
    rw (← c.self.view_is) (c.next.ensures ∙ ap₂ (λ (calls : List Kind) (n : ℕ). slice_get calls n)
    (calls_are f.machine.now (past_of (passage f)) c.args.who c.deref.result.now.calls (ap (λ (k : PastState). k.calls) c.deref.ensures ∙ c.self.invariant.holds.calls) fits who)
    (made_is f.machine.now (past_of (passage f)) c.args.who c.deref.result.now.calls (ap (λ (k : PastState). k.calls) c.deref.ensures ∙ c.self.invariant.holds.calls) fits who))
