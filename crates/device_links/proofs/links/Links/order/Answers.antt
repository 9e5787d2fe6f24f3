-- Proof by hand of `order`: what it returns.
use Rattle.std.proofs.Common.{◌≡◌, ◌<◌, ◌∙◌, ℕ, List, length, ap, sym, subst, reverse, true}
use Rattle.sleep_model.specs.Order.{is_among, dependents}
use Rattle.sleep_model.specs.Links.{IsOrder}
use Rattle.sleep_model.proofs.Acyclic.{order_ranked, order_covers, order_within, order_length}
use Rattle.device_links.specs.Linked.{Linked}
use Rattle.device_links.proofs.links.Links.order.Goals as goal

pub returns-clause-ranked : goal.returns-clause-ranked
returns-clause-ranked c =
    let k = c.self.invariant.kept in
    let ps = c.self.inside.parents.items in
    let ls = reverse c.self.inside.links.items in
    subst (λ (v : Linked). IsOrder (dependents v.parents v.links) c.deref.result.now) c.self.view_is
    (subst (λ (o : List ℕ). IsOrder (dependents ps ls) o) (sym (c.deref.ensures.value ∙ k.ordered)) (order_ranked ps k.after ls k.linked))

pub returns-clause-covers : goal.returns-clause-covers
returns-clause-covers c =
    let k = c.self.invariant.kept in
    let ps = c.self.inside.parents.items in
    let ls = reverse c.self.inside.links.items in
    subst (λ (v : Linked). (d : ℕ) → d < length v.parents → is_among c.deref.result.now d ≡ true) c.self.view_is
    (subst (λ (o : List ℕ). (d : ℕ) → d < length ps → is_among o d ≡ true) (sym (c.deref.ensures.value ∙ k.ordered)) (order_covers ps k.after ls))

pub returns-clause-within : goal.returns-clause-within
returns-clause-within c =
    let k = c.self.invariant.kept in
    let ps = c.self.inside.parents.items in
    let ls = reverse c.self.inside.links.items in
    subst (λ (v : Linked). (d : ℕ) → is_among c.deref.result.now d ≡ true → d < length v.parents) c.self.view_is
    (subst (λ (o : List ℕ). (d : ℕ) → is_among o d ≡ true → d < length ps) (sym (c.deref.ensures.value ∙ k.ordered)) (order_within ps k.after ls k.linked))

pub returns-clause-count : goal.returns-clause-count
returns-clause-count c =
    let k = c.self.invariant.kept in
    let ps = c.self.inside.parents.items in
    let ls = reverse c.self.inside.links.items in
    subst (λ (v : Linked). length c.deref.result.now ≡ length v.parents) c.self.view_is (ap length (c.deref.ensures.value ∙ k.ordered) ∙ order_length ps k.after ls k.linked)
