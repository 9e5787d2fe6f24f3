-- Proof by hand of `makers_of`: the call of `fill`, its loop and what it returns, by the lemmas of `Filling`.
use Rattle.std.proofs.Common.{◌≡◌, ◌∙◌, ◌<◌, ◌+◌, ℕ, List, Vec, get_or, length, vec_len, sym, ap, subst, arith}
use Rattle.idle_loop.specs.Makers.{filled}
use Rattle.idle_loop.proofs.Filling.{fill_list, lists_filled, places_low}
use Rattle.idle_loop.proofs.makers.makers_of.Goals as goal

pub fill-requires : goal.fill-requires
fill-requires c =
    let lists = c.args.ranks.now.items in
    let v = c.own-item.result in
    let low : c.loop-own.own-index < length lists = omega (arith, c.loop-own-test.true, ap length c.deref-own-items.ensures.value) in
    let is : v ≡ get_or lists c.loop-own.own-index v = subst (λ (l : List (Vec ℕ _)). v ≡ get_or l c.loop-own.own-index v) c.deref-own-items.ensures.value c.own-item.is in
    let old = c.loop-own.invariant.1 c.requires.0 c.requires.1 in
    subst (λ (l : List ℕ). (k d : ℕ) → k < length l → get_or l k d < vec_len c.loop-own.makers) (sym c.deref.ensures.value)
    (places_low c.requires.0 c.args.count (vec_len c.loop-own.makers) lists c.requires.1 (c.loop-own.makers.ok.0 ∙ old.long) c.loop-own.own-index v low is)

pub loop-own-preserved : goal.loop-own-preserved
loop-own-preserved c =
    let lists = c.args.ranks.now.items in
    let v = c.own-item.result in
    let low : c.loop-own.own-index < length lists = omega (arith, c.loop-own-test.true, ap length c.deref-own-items.ensures.value) in
    let is : v ≡ get_or lists c.loop-own.own-index v = subst (λ (l : List (Vec ℕ _)). v ≡ get_or l c.loop-own.own-index v) c.deref-own-items.ensures.value c.own-item.is in
    let who : c.loop-own.who ≡ c.loop-own.own-index = c.loop-own.invariant.0 in (
      ap (λ (n : ℕ). n + 1) who,
      λ ms are. fill_list ms c.args.count c.loop-own.who lists c.loop-own.makers.items c.fill.new.makers.items v are (omega (arith, who, low)) (is ∙ ap (λ (n : ℕ). get_or lists n v) (sym who))
          (c.fill.ensures ∙ ap (λ (l : List ℕ). filled c.loop-own.who l c.loop-own.makers.items) c.deref.ensures.value) (c.loop-own.invariant.1 ms are),
    )

pub returns-clause-made : goal.returns-clause-made
returns-clause-made c = λ ms are.
    let who : c.loop-own.who ≡ c.loop-own.own-index = c.loop-own.invariant.0 in
    let same : length c.deref-own-items.result.now ≡ length c.args.ranks.now.items = ap length c.deref-own-items.ensures.value in
    lists_filled ms c.args.count c.loop-own.who c.args.ranks.now.items c.loop-own.makers.items are (omega (arith, c.loop-own-test.false, same, who)) (omega (arith, c.loop-own.auto.own-index-end, same, who)) (c.loop-own.invariant.1 ms are)

pub returns-clause-few : goal.returns-clause-few
returns-clause-few c =
    let old = c.loop-own.invariant.1 c.requires.0 c.requires.1 in
    omega (arith, old.long, c.requires.1.counted, c.ranges.count.fits)
