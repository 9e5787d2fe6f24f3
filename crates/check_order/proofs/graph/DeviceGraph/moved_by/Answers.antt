-- Proof by hand of `moved_by`: the call of `move_to_end` and what it returns, by the lemmas of `Ordering`.
use Rattle.std.proofs.Common.{◌≡◌, ◌∷◌, ◌∙◌, length, reverse, ap, sym, subst}
use Rattle.std.proofs.lemmas.Result.{IfOk-weaker}
use Rattle.sleep_model.specs.Links.{AreLinks}
use Rattle.sleep_model.specs.Order.{order_by}
use Rattle.device_rows.specs.Table.{row_at}
use Rattle.check_order.specs.Graphs.{GraphState, moved_to_end}
use Rattle.check_order.proofs.Ordering.{hang_within, order_next, stand_within}
use Rattle.check_order.proofs.graph.DeviceGraph.moved_by.Goals as goal

pub move_to_end-requires-clause-below : goal.move_to_end-requires-clause-below
move_to_end-requires-clause-below c =
    let old = c.self.inside in
    let was = c.self.invariant.graph in
    hang_within old.parents.items was.after (reverse old.links.items) was.linked old.hanging c.self.invariant.hanging

pub move_to_end-requires-clause-within : goal.move_to_end-requires-clause-within
move_to_end-requires-clause-within c =
    let old = c.self.inside in
    let was = c.self.invariant.graph in
    stand_within old.parents.items was.after (reverse old.links.items) was.linked old.hanging c.self.invariant.hanging c.deref.result.now (c.deref.ensures.value ∙ c.self.invariant.order)

pub returns : goal.returns
returns c =
    let old = c.self.inside in
    let ps = old.parents.items in
    let ls = reverse old.links.items in
    let l = c.args.link in
    let t = old.hanging in
    let linked = subst (λ (v : GraphState). AreLinks v.parents (l ∷ v.links)) (sym c.self.view_is) c.requires in
    IfOk-weaker c.move_to_end.result (λ v. v.items ≡ moved_to_end (length t.rows) (row_at t) l.consumer c.deref.result.now) (λ v. v.items ≡ order_by c.args.self.now.parents (l ∷ c.args.self.now.links))
    (λ v e. e
    ∙ (ap (moved_to_end (length t.rows) (row_at t) l.consumer) (c.deref.ensures.value ∙ c.self.invariant.order)
    ∙ (order_next ps c.self.invariant.graph.after l ls linked t c.self.invariant.hanging
    ∙ ap (λ (w : GraphState). order_by w.parents (l ∷ w.links)) c.self.view_is)))
    c.move_to_end.ensures
