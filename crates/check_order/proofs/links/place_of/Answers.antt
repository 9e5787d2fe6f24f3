-- Proof by hand of `place_of`: its indices, what it returns and its loop, by the lemmas of `Placing`.
use Rattle.std.proofs.Common.{◌∙◌, ◌==◌, sym, arith}
use Rattle.check_order.proofs.Placing.{not_linked, not_yet, place_within}
use Rattle.check_order.proofs.links.place_of.Goals as goal

pub bounds-links-place : goal.bounds-links-place
bounds-links-place c =
    place_within (λ l. l.consumer == c.args.consumer) c.args.links.now c.args.places.now c.requires c.loop-place.place-index 0 c.loop-place-test.true

pub returns-then-is_link : goal.returns-then-is_link
returns-then-is_link c = record {
  within = place_within (λ l. l.consumer == c.args.consumer) c.args.links.now c.args.places.now c.requires c.loop-place.place-index 0 c.loop-place-test.true;
  is = sym c.is_link.ensures ∙ c.if-is_link.true;
}

pub loop-place-preserved : goal.loop-place-preserved
loop-place-preserved c =
    not_yet c.args.supplier c.args.consumer c.args.links.now c.args.places.now c.requires c.loop-place.place-index c.loop-place.invariant c.loop-place-test.true
    (sym c.is_link.ensures ∙ c.if-is_link.false)

pub returns : goal.returns
returns c =
    not_linked c.args.supplier c.args.consumer c.args.links.now c.args.places.now c.requires c.loop-place.place-index c.loop-place.invariant (omega arith)
