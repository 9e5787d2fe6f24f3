-- Proof by hand of `row_below`: its indices and what it returns, by the lemmas of `Placing`.
use Rattle.std.proofs.Common.{◌++◌, ◌∙◌, List, reverse, ap}
use Rattle.sleep_model.specs.declared.machine.Link.{Link}
use Rattle.sleep_model.specs.Order.{active_of, consumers_of, dependents}
use Rattle.check_order.specs.Graphs.{GraphState, links_with}
use Rattle.check_order.proofs.Placing.{children_first}
use Rattle.check_order.proofs.graph.DeviceGraph.row_below.Goals as goal

pub slice_bounds-children-count : goal.slice_bounds-children-count
slice_bounds-children-count c =
    let old = c.self.inside in
    let s = c.args.changed.supplier in
    let first = children_first old.parents.items (reverse old.links.items) s c.row-hanging.result.now c.row-supplied.result.now (c.row-hanging.ensures ∙ c.self.invariant.hanging.each s) (c.row-supplied.ensures ∙ c.self.invariant.placed.by_supplier.each s) in
    first.0

pub returns : goal.returns
returns c =
    let old = c.self.inside in
    let l = c.args.changed in
    let s = l.supplier in
    let ps = old.parents.items in
    let first = children_first ps (reverse old.links.items) s c.row-hanging.result.now c.row-supplied.result.now (c.row-hanging.ensures ∙ c.self.invariant.hanging.each s) (c.row-supplied.ensures ∙ c.self.invariant.placed.by_supplier.each s) in
    c.in_ok-push_consumers.ensures
    ∙ (ap (λ xs. xs ++ consumers_of s (active_of (links_with l (reverse c.deref.result.now)))) (c.in_ok-row.ensures.items ∙ first.1)
    ∙ (ap (λ (ls : List Link). dependents ps (active_of (links_with l (reverse ls))) s) c.deref.ensures.value
    ∙ ap (λ (v : GraphState). dependents v.parents (active_of (links_with l v.links)) s) c.self.view_is))
