-- Proof by hand of `new`: the call of `add_link`, by the lemmas of `Ordering`.
use Rattle.std.proofs.Common.{◌∷◌, get_or, sym, subst}
use Rattle.sleep_model.specs.Links.{AreLinks}
use Rattle.check_order.specs.Graphs.{GraphState, no_link}
use Rattle.check_order.proofs.Ordering.{link_next}
use Rattle.check_order.proofs.graph.DeviceGraph.new.Goals as goal

pub add_link-requires : goal.add_link-requires
add_link-requires c =
    let ls = c.args.links.now in
    let i = c.loop-link.link-index in
    subst (λ (v : GraphState). AreLinks v.parents (get_or ls i no_link ∷ v.links)) (sym c.loop-link.invariant)
    (link_next c.args.parents.now c.requires.after ls c.requires.linked i no_link c.loop-link-test.true)
