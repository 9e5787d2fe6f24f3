-- Proof that `Run::is_full` meets its contract.
use Rattle.std.proofs.Common.{◌≡◌, ◌<◌, ◌∙◌, List, length, slice_index_or, refl, ap, subst, arith}
use Rattle.std.proofs.lemmas.Bool.Decides.{nat_tests}
use Rattle.wakeup_source.specs.SourceStates.{SourceState}
use Rattle.run_objects.specs.Objects.{SeatedSourceState}
use Rattle.machine_rounds.proofs.BurstContents.{fills_run}
use Rattle.machine_rounds.proofs.run.Run.is_full.Goals as goal

pub returns-in-Some : goal.returns-in-Some
returns-in-Some c =
    let x = c.in-Some.one.now in
    let found = c.in-Some.ensures.lookup in
    let inside : c.args.source < length c.deref.result.now = let t = found.0 in grind (arith, nat_tests) in
    fills_run c.self.inside c.args.self.now c.self.view_is c.self.invariant c.args.source x c.history.result.now
    (subst (λ (xs : List SeatedSourceState). c.args.source < length xs) c.deref.ensures.value inside)
    (subst (λ (xs : List SeatedSourceState). x ≡ slice_index_or xs c.args.source x) c.deref.ensures.value found.1)
    (c.history.ensures.entries ∙ ap (λ (s : SourceState). s.past) c.source.ensures.is) _ refl
