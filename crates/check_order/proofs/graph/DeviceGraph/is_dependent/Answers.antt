-- Proof by hand of `is_dependent`: the call of `visit_below` and what it returns, by the lemmas of `Ordering` and `Tying`.
use Rattle.std.proofs.Common.{◌<◌, ◌∙◌, length, reverse, ap, sym, subst}
use Rattle.sleep_model.specs.Links.{is_dependent}
use Rattle.check_order.specs.Graphs.{GraphState}
use Rattle.check_order.proofs.Ordering.{hang_within}
use Rattle.check_order.proofs.Tying.{dependent_is}
use Rattle.check_order.proofs.graph.DeviceGraph.is_dependent.Goals as goal

pub visit_below-requires-clause-within : goal.visit_below-requires-clause-within
visit_below-requires-clause-within c =
    let old = c.self.inside in
    let was = c.self.invariant.graph in
    hang_within old.parents.items was.after (reverse old.links.items) was.linked old.hanging c.self.invariant.hanging

pub returns : goal.returns
returns c =
    let old = c.self.inside in
    let was = c.self.invariant.graph in
    let ps = old.parents.items in
    let ls = reverse old.links.items in
    let consumer = subst (λ (v : GraphState). c.args.consumer < length v.parents) (sym c.self.view_is) c.requires.consumer in
    let supplier = subst (λ (v : GraphState). c.args.supplier < length v.parents) (sym c.self.view_is) c.requires.supplier in
    c.is_set.ensures
    ∙ (dependent_is ps was.after ls was.linked old.hanging c.self.invariant.hanging c.args.consumer c.args.supplier consumer supplier c.in_ok-visits.visits c.in_ok-visits.ensures
    ∙ ap (λ (v : GraphState). is_dependent v.parents v.links c.args.consumer c.args.supplier) c.self.view_is)
