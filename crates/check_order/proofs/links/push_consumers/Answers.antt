-- Proof by hand of `push_consumers`: its indices, its loop and what it returns, by the lemmas of `Placing`.
use Rattle.std.proofs.Common.{◌==◌, ◌++◌, ◌∷◌, ◌∙◌, [], ap₂, cond, arith}
use Rattle.check_order.proofs.Placing.{consumers_all, consumers_more, place_within}
use Rattle.check_order.proofs.links.push_consumers.Goals as goal

pub bounds-links-place : goal.bounds-links-place
bounds-links-place c =
    place_within (λ l. l.supplier == c.args.changed.supplier) c.args.links.now c.args.places.now c.requires c.loop-place.place-index 0 c.loop-place-test.true

pub loop-place-preserved : goal.loop-place-preserved
loop-place-preserved c =
    c.in_ok-push_if.ensures
    ∙ (ap₂ (λ xs y. xs ++ cond y.active (y.consumer ∷ []) []) c.loop-place.invariant c.with_state-link.ensures
    ∙ consumers_more c.args.changed c.args.links.now c.args.places.now c.loop-place.place-index c.args.row.now.items c.requires c.loop-place-test.true)

pub returns : goal.returns
returns c =
    c.loop-place.invariant
    ∙ consumers_all c.args.changed c.args.links.now c.args.places.now c.loop-place.place-index c.args.row.now.items c.requires (omega arith)
