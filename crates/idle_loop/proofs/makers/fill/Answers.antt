-- Proof by hand of `fill`: its loop.
use Rattle.std.proofs.Common.{◌∙◌, ℕ, List, sym, ap}
use Rattle.std.proofs.lemmas.List.{drop_more}
use Rattle.idle_loop.specs.Makers.{filled}
use Rattle.idle_loop.proofs.makers.fill.Goals as goal

pub loop-place-preserved : goal.loop-place-preserved
loop-place-preserved c = (
  sym (ap (λ (l : List ℕ). filled c.args.who l c.loop-place.makers.items) (drop_more c.args.ranks.now c.loop-place.place-index 0 c.loop-place-test.true)) ∙ c.loop-place.invariant.0,
  c.loop-place.invariant.1,
)
