-- Proof by hand of `is_linked`: what it returns, by the lemmas of `Placing`.
use Rattle.std.proofs.Common.{◌∙◌, List, ap, reverse}
use Rattle.sleep_model.specs.declared.machine.Link.{Link}
use Rattle.sleep_model.specs.Links.{is_linked}
use Rattle.check_order.specs.Graphs.{GraphState}
use Rattle.check_order.proofs.Placing.{found_is}
use Rattle.check_order.proofs.graph.DeviceGraph.is_linked.Goals as goal

pub returns : goal.returns
returns c =
    let s = c.args.supplier in
    let d = c.args.consumer in
    c.is_some.ensures
    ∙ (found_is s d c.deref.result.now c.place_of.result c.place_of.ensures
    ∙ (ap (λ (ls : List Link). is_linked (reverse ls) s d) c.deref.ensures.value
    ∙ ap (λ (v : GraphState). is_linked v.links s d) c.self.view_is))
