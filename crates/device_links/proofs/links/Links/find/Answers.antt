-- Proof by hand of `find`: the call of `walk` and what it returns, by the lemmas of `Invariant`.
use Rattle.std.proofs.Common.{◌∙◌, ℕ, List, length, ap, sym, subst, reverse, IfOk}
use Rattle.sleep_model.specs.Order.{dependents}
use Rattle.sleep_model.proofs.Acyclic.{order_length}
use Rattle.device_rows.specs.Table.{row_at}
use Rattle.device_links.specs.Linked.{Linked}
use Rattle.device_links.specs.Walks.{Finds}
use Rattle.device_links.proofs.Invariant.{walkable, dependents_is}
use Rattle.device_links.proofs.links.Links.find.Goals as goal

pub walk-requires-clause-sized : goal.walk-requires-clause-sized
walk-requires-clause-sized c =
    let k = c.self.invariant.kept in
    ap length (c.deref.ensures.value ∙ k.ordered) ∙ (order_length c.self.inside.parents.items k.after (reverse c.self.inside.links.items) k.linked ∙ sym k.all_dependents.count)

pub walk-requires-clause-walkable : goal.walk-requires-clause-walkable
walk-requires-clause-walkable c =
    let k = c.self.invariant.kept in
    walkable c.self.inside.parents.items (reverse c.self.inside.links.items) k.after k.linked c.self.inside.tables.dependents k.all_dependents

pub returns : goal.returns
returns c =
    let k = c.self.invariant.kept in
    let ps = c.self.inside.parents.items in
    let ls = reverse c.self.inside.links.items in
    let t = c.self.inside.tables.dependents in
    subst (λ (v : Linked). IfOk c.walk.result (Finds (length v.parents) (dependents v.parents v.links) c.args.consumer c.args.supplier)) c.self.view_is
    (subst (λ (h : ℕ → List ℕ). IfOk c.walk.result (Finds (length ps) h c.args.consumer c.args.supplier)) (dependents_is ps ls t k.all_dependents)
    (subst (λ (n : ℕ). IfOk c.walk.result (Finds n (row_at t) c.args.consumer c.args.supplier)) k.all_dependents.count c.walk.ensures))
