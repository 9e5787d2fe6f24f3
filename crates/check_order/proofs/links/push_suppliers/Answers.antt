-- Proof by hand of `push_suppliers`: its indices, its loop and what it returns, by the lemmas of `Placing`.
use Rattle.std.proofs.Common.{◌==◌, ◌++◌, ◌∷◌, ◌∙◌, [], ap₂, cond, arith}
use Rattle.check_order.proofs.Placing.{suppliers_all, suppliers_more, place_within}
use Rattle.check_order.proofs.links.push_suppliers.Goals as goal

pub bounds-links-place : goal.bounds-links-place
bounds-links-place c =
    place_within (λ l. l.consumer == c.args.changed.consumer) c.args.links.now c.args.places.now c.requires c.loop-place.place-index 0 c.loop-place-test.true

pub loop-place-preserved : goal.loop-place-preserved
loop-place-preserved c =
    c.in_ok-push_if.ensures
    ∙ (ap₂ (λ xs y. xs ++ cond y.active (y.supplier ∷ []) []) c.loop-place.invariant c.with_state-link.ensures
    ∙ suppliers_more c.args.changed c.args.links.now c.args.places.now c.loop-place.place-index c.args.row.now.items c.requires c.loop-place-test.true)

pub returns : goal.returns
returns c =
    c.loop-place.invariant
    ∙ suppliers_all c.args.changed c.args.links.now c.args.places.now c.loop-place.place-index c.args.row.now.items c.requires (omega arith)
