-- Proof by hand of `stays_by`: what it returns, by the lemmas of `Moving`.
use Rattle.std.proofs.Common.{◌∙◌, ℕ, List, reverse, ap, sym, subst}
use Rattle.std.specs.Bool.{OnTrue}
use Rattle.sleep_model.specs.Order.{order_by}
use Rattle.device_links.specs.Linked.{Linked}
use Rattle.device_links.specs.Moves.{Precedes, LeavesOrder}
use Rattle.device_links.proofs.Moving.{newest_link, stays}
use Rattle.device_links.proofs.links.Links.stays_by.Goals as goal

pub returns-in-Some : goal.returns-in-Some
returns-in-Some c =
    let old = c.self.inside in
    let k = c.self.invariant.kept in
    let ps = old.parents.items in
    let ls = reverse old.links.items in
    let l = c.args.link in
    let found = sym (ap reverse c.deref.ensures.value) ∙ newest_link c.deref.result.now c.in-Some.newest.now c.in-Some.ensures.value in
    subst (λ (v : Linked). OnTrue c.precedes.result (LeavesOrder v l (order_by v.parents v.links))) c.self.view_is
    (stays ps k.after ls k.linked l c.in-Some.newest.now _ found c.if-newest-link.true c.precedes.result
    (subst (λ (o : List ℕ). OnTrue c.precedes.result (Precedes o l.supplier l.consumer)) (c.deref-in-Some.ensures.value ∙ k.ordered) c.precedes.ensures))
