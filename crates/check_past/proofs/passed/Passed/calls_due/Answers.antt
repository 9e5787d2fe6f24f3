-- Proof by hand of `calls_due`: what it returns, by the lemmas of `Answers`.
use Rattle.std.proofs.Common.{◌≡◌, ◌∙◌, ap, length, subst, IfOk, List}
use Rattle.sleep_model.specs.declared.entry.Kind.{Kind}
use Rattle.check_past.specs.declared.past_state.PastState.{PastState}
use Rattle.check_past.specs.PassedFields.{passage}
use Rattle.check_past.specs.Passing.{past_of}
use Rattle.check_past.proofs.Answers.{calls_are, all_passed}
use Rattle.check_past.proofs.passed.Passed.calls_due.Goals as goal

pub returns : goal.returns
returns c =
    let f = c.self.inside in
    let fits = all_passed f.machine.now f.passed f.entries.now c.self.invariant.passage.fits in
    let who = rw (← c.self.view_is) at c.requires in
    let e = calls_are f.machine.now (past_of (passage f)) c.args.who c.deref.result.now.calls (ap (λ (k : PastState). k.calls) c.deref.ensures ∙ c.self.invariant.holds.calls) fits who in
    rw (← c.self.view_is) (subst (λ (xs : List Kind). IfOk c.due.result (λ n. n ≡ length xs)) e c.due.ensures)
