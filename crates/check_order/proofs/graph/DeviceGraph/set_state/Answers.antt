-- Proof by hand of `set_state`: what it returns, the call of `row_above` and the rest, by the lemmas of `Making`, `Placing` and `Tying`.
use Rattle.std.proofs.Common.{◌≡◌, ◌<◌, ◌∙◌, ℕ, List, length, map, reverse, refl, ap, sym, subst}
use Rattle.sleep_model.specs.declared.machine.Link.{Link}
use Rattle.sleep_model.specs.Order.{with_state}
use Rattle.check_order.specs.Graphs.{AreShown, StandsAt, GraphState, links_with, with_links}
use Rattle.check_order.proofs.Making.{made_as, made_set}
use Rattle.check_order.proofs.Placing.{linked_within, new_state, none_changed, same_state, stands_there}
use Rattle.check_order.proofs.Tying.{graph_as}
use Rattle.check_order.proofs.graph.DeviceGraph.set_state.Goals as goal

pub returns-in_default : goal.returns-in_default
returns-in_default c =
    let s = c.args.supplier in
    let d = c.args.consumer in
    let f = with_state s d c.args.active in
    let none = subst (λ (ls : List Link). map f (reverse ls) ≡ reverse ls) c.deref.ensures.value (none_changed s d c.args.active (reverse c.deref.result.now) c.in_default.ensures) in
    ap (with_links c.args.self.now) (sym (subst (λ (v : GraphState). map f v.links ≡ v.links) c.self.view_is none))

pub returns-then-index-active : goal.returns-then-index-active
returns-then-index-active c =
    let s = c.args.supplier in
    let d = c.args.consumer in
    let f = with_state s d c.args.active in
    let old = c.self.inside in
    let at = subst (λ (ls : List Link). StandsAt s d ls c.in-Some.place) c.deref.ensures.value c.in-Some.ensures in
    let same = same_state s d c.args.active old.parents.items old.links.items c.self.invariant.graph.linked c.in-Some.place at c.index.result.now c.index.ensures c.if-index-active.true in
    ap (with_links c.args.self.now) (sym (subst (λ (v : GraphState). map f v.links ≡ v.links) c.self.view_is same))

pub row_above-requires : goal.row_above-requires
row_above-requires c =
    let s = c.args.supplier in
    let d = c.args.consumer in
    let old = c.self.inside in
    let at = subst (λ (ls : List Link). StandsAt s d ls c.in-Some.place) c.deref.ensures.value c.in-Some.ensures in
    let linked = c.self.invariant.graph.linked in
    let within = linked_within old.parents.items s d (reverse old.links.items) linked (stands_there s d c.args.active old.parents.items old.links.items linked c.in-Some.place at) in
    subst (λ (v : GraphState). d < length v.parents) c.self.view_is within.1

pub replace-requires : goal.replace-requires
replace-requires c =
    let s = c.args.supplier in
    let d = c.args.consumer in
    let old = c.self.inside in
    let at = subst (λ (ls : List Link). StandsAt s d ls c.in-Some.place) c.deref.ensures.value c.in-Some.ensures in
    let linked = c.self.invariant.graph.linked in
    let within = linked_within old.parents.items s d (reverse old.links.items) linked (stands_there s d c.args.active old.parents.items old.links.items linked c.in-Some.place at) in
    subst (λ (n : ℕ). s < n) (sym c.self.invariant.active.below.count) within.0

pub replace-requires-2 : goal.replace-requires-2
replace-requires-2 c =
    let s = c.args.supplier in
    let d = c.args.consumer in
    let old = c.self.inside in
    let at = subst (λ (ls : List Link). StandsAt s d ls c.in-Some.place) c.deref.ensures.value c.in-Some.ensures in
    let linked = c.self.invariant.graph.linked in
    let within = linked_within old.parents.items s d (reverse old.links.items) linked (stands_there s d c.args.active old.parents.items old.links.items linked c.in-Some.place at) in
    subst (λ (n : ℕ). d < n) (sym c.self.invariant.active.above.count) within.1

pub invariant_of-self : goal.invariant_of-self
invariant_of-self c =
    let s = c.args.supplier in
    let d = c.args.consumer in
    let old = c.self.inside in
    let ps = old.parents.items in
    let l : Link = record { supplier = s; consumer = d; active = c.args.active } in
    let at = subst (λ (ls : List Link). StandsAt s d ls c.in-Some.place) c.deref.ensures.value c.in-Some.ensures in
    let linked = c.self.invariant.graph.linked in
    let is_among_links = stands_there s d c.args.active ps old.links.items linked c.in-Some.place at in
    let below = c.in_ok-below.below.items in
    let above = c.in_ok-above.above.items in
    let shown : AreShown ps (links_with l (reverse old.links.items)) l below above =
    subst (λ (v : GraphState). AreShown v.parents (links_with l v.links) l below above) (sym c.self.view_is) (record { below = c.in_ok-below.ensures; above = c.in_ok-above.ensures }) in
    made_as old.order.items (sym (new_state s d c.args.active ps old.links.items linked c.in-Some.place at)) refl refl refl (sym c.replace.ensures) (sym c.replace-2.ensures)
    (made_set ps (reverse old.links.items) old.hanging.rows old.supplied.rows old.consumed.rows old.below old.above old.order.items c.self.invariant l is_among_links below above shown)

pub returns : goal.returns
returns c =
    let s = c.args.supplier in
    let d = c.args.consumer in
    let old = c.self.inside in
    let f = with_state s d c.args.active in
    let at = subst (λ (ls : List Link). StandsAt s d ls c.in-Some.place) c.deref.ensures.value c.in-Some.ensures in
    graph_as refl (new_state s d c.args.active old.parents.items old.links.items c.self.invariant.graph.linked c.in-Some.place at)
    ∙ ap (λ (v : GraphState). with_links v (map f v.links)) c.self.view_is
