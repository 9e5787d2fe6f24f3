-- Proof by hand of `add_link`: the invariants of its types, by the lemmas of `Making`.
use Rattle.std.proofs.Common.{◌≡◌, ◌∷◌, ◌++◌, ◌∙◌, [], Some, length, reverse, ap, sym, subst, arith}
use Rattle.std.proofs.lemmas.List.{length-reverse, reverse-append}
use Rattle.sleep_model.specs.Links.{AreLinks}
use Rattle.sleep_model.specs.Order.{order_by}
use Rattle.device_rows.specs.Table.{with_number}
use Rattle.check_order.specs.Graphs.{AreShown, GraphState}
use Rattle.check_order.proofs.Making.{made_as, made_more}
use Rattle.check_order.proofs.graph.DeviceGraph.add_link.Goals as goal

pub invariant_of-self-2 : goal.invariant_of-self-2
invariant_of-self-2 c =
    let old = c.self.inside in
    let ps = old.parents.items in
    let ls = reverse old.links.items in
    let l = c.args.link in
    let k = c.in_ok-place.place in
    let rows = c.in_ok-rows.rows in
    let now = c.in_ok-order.order.items in
    let linked = subst (λ (v : GraphState). AreLinks v.parents (l ∷ v.links)) (sym c.self.view_is) c.requires in
    let shown = subst (λ (v : GraphState). AreShown v.parents (l ∷ v.links) l rows.below.items rows.above.items) (sym c.self.view_is) c.in_ok-rows.ensures in
    let order = subst (λ (v : GraphState). now ≡ order_by v.parents (l ∷ v.links)) (sym c.self.view_is) c.in_ok-order.ensures in
    let count : k ≡ length ls = let n = length-reverse old.links.items in omega (arith, n, c.in_ok-place.ensures, c.len.ensures) in
    let links : reverse c.push_reserved.new.self.items ≡ l ∷ ls = ap reverse (c.push_reserved.ensures.items ∙ ap (λ xs. xs ++ l ∷ []) c.make_room.ensures.links) ∙ reverse-append old.links.items (l ∷ []) in
    made_as now (sym links)
    (sym (c.push.ensures.rows ∙ ap (λ r. with_number r (Some l.supplier) l.consumer) c.make_room.ensures.hanging))
    (sym (c.push-2.ensures.rows ∙ ap (λ r. with_number r (Some l.supplier) k) c.make_room.ensures.supplied))
    (sym (c.push-3.ensures.rows ∙ ap (λ r. with_number r (Some l.consumer) k) c.make_room.ensures.consumed))
    (sym c.replace.ensures)
    (sym c.replace-2.ensures)
    (made_more ps ls old.hanging.rows old.supplied.rows old.consumed.rows old.below old.above old.order.items c.self.invariant l linked k count rows.below.items rows.above.items now shown order)
