-- Proof by hand of `is_dependent`: what it returns, by the lemmas of `Invariant`, `Moving` and `Spreading`.
use Rattle.std.proofs.Common.{◌≡◌, ◌≤◌, ◌∙◌, ◌==◌, ℕ, List, false, true, length, ap, subst, reverse, sym, get_or, set, replicate, arith}
use Rattle.std.proofs.lemmas.Bool.{ne_eqb}
use Rattle.sleep_model.specs.Links.{is_dependent}
use Rattle.sleep_model.specs.Order.{dependents}
use Rattle.std.specs.Bool.{OnTrue}
use Rattle.device_links.specs.Linked.{Linked}
use Rattle.device_links.specs.Spread.{spread}
use Rattle.device_links.proofs.Invariant.{dependents_is}
use Rattle.device_links.specs.Moves.{Precedes}
use Rattle.device_links.proofs.Moving.{apart_by}
use Rattle.device_links.proofs.Spreading.{comes}
use Rattle.device_links.proofs.links.Links.is_dependent.Goals as goal

pub returns-else-consumer-supplier : goal.returns-else-consumer-supplier
returns-else-consumer-supplier c =
    let old = c.self.inside in
    let k = c.self.invariant.kept in
    let ps = old.parents.items in
    let ls = reverse old.links.items in
    let from = c.args.consumer in
    let to = c.args.supplier in
    let few : length ps ≤ 1024 = subst (λ (v : Linked). length v.parents ≤ 1024) (sym c.self.view_is) c.requires in
    let apart : (from == to) ≡ false = ne_eqb from to (λ e. omega arith) in
    subst (λ (v : Linked). c.comes_to.result ≡ is_dependent v.parents v.links from to) c.self.view_is
    (c.comes_to.ensures
    ∙ (ap (λ (dependents_of : ℕ → List ℕ). get_or (spread dependents_of c.deref-else-consumer-supplier.result.now (set (replicate 1024 false) from true)) to false) (dependents_is ps ls old.tables.dependents k.all_dependents)
    ∙ (ap (λ (ds : List ℕ). get_or (spread (dependents ps ls) ds (set (replicate 1024 false) from true)) to false) (c.deref-else-consumer-supplier.ensures.value ∙ k.ordered)
    ∙ comes ps k.after ls k.linked 1024 from to few apart)))

pub returns-then-precedes : goal.returns-then-precedes
returns-then-precedes c =
    let old = c.self.inside in
    let k = c.self.invariant.kept in
    let ps = old.parents.items in
    let ls = reverse old.links.items in
    let from = c.args.consumer in
    let to = c.args.supplier in
    let first = subst (λ (o : List ℕ). OnTrue c.precedes.result (Precedes o to from)) (c.deref.ensures.value ∙ k.ordered) c.precedes.ensures in
    subst (λ (v : Linked). false ≡ is_dependent v.parents v.links from to) c.self.view_is
    (sym (apart_by ps k.after ls k.linked to from c.precedes.result first c.if-precedes.true))
