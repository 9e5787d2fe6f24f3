-- Proof by hand of `chain_to`: its loop, the branch that is never taken and what it returns, by the lemmas of `Chaining`.
use Rattle.std.proofs.Common.{◌≡◌, ◌≤◌, ◌+◌, ◌-◌, ◌∙◌, ◌∷◌, [], None, ℕ, List, length, sym, ap, subst, arith}
use Rattle.device_chain.specs.Chains.{IsLed, first_at, is_chain, level_at}
use Rattle.device_chain.proofs.Chaining.{IsClimbed, climbed_chain, climbed_first, climbed_next, climbs}
use Rattle.device_chain.proofs.chain.chain_to.Goals as goal

pub loop-level-init : goal.loop-level-init
loop-level-init c =
    let l = c.args.links.now in
    let levels = c.args.levels.now in
    let end = c.args.end in
    let first = subst (λ (k : ℕ). IsClimbed l levels end k end (end ∷ [])) (sym c.level_at-level.ensures) (climbed_first l levels end c.requires.levels c.requires.device) in
    subst (λ (xs : List ℕ). IsClimbed l levels end c.level_at-level.result end xs) (sym (c.in_ok-push.ensures.ok ∙ ap (λ (xs : List ℕ). end ∷ xs) c.new-chain.ensures)) first

pub unreachable-requires : goal.unreachable-requires
unreachable-requires c =
    let l = c.args.links.now in
    let levels = c.args.levels.now in
    let level = c.loop-level.level - 1 in
    let least : 1 ≤ level = omega arith in
    let back : c.loop-level.level ≡ level + 1 = omega arith in
    let i = c.loop-level.invariant in
    climbs l levels level c.loop-level.first c.requires.levels least i.within (i.reached ∙ back)
    (ap (first_at levels level None) (sym c.above.ensures) ∙ (sym c.first_at.ensures ∙ c.in-None.is))

pub loop-level-preserved : goal.loop-level-preserved
loop-level-preserved c =
    let l = c.args.links.now in
    let levels = c.args.levels.now in
    let end = c.args.end in
    let level = c.loop-level.level - 1 in
    let least : 1 ≤ level = omega arith in
    let back : c.loop-level.level ≡ level + 1 = omega arith in
    let i = subst (λ (k : ℕ). IsClimbed l levels end k c.loop-level.first c.loop-level.chain) back c.loop-level.invariant in
    let next = climbed_next l levels end level c.loop-level.first c.in-Some.device c.loop-level.chain c.requires.levels least i
    (ap (first_at levels level None) (sym c.above.ensures) ∙ (sym c.first_at.ensures ∙ c.in-Some.is)) in
    subst (λ (xs : List ℕ). IsClimbed l levels end level c.in-Some.device xs) (sym c.in_ok-push-2.ensures.ok) next

pub returns : goal.returns
returns c =
    let l = c.args.links.now in
    let levels = c.args.levels.now in
    let end = c.args.end in
    let i = c.loop-level.invariant in
    let chain = c.loop-level.chain in
    let least = i.least in
    let most = c.loop-level-test.false in
    let long = i.long in
    record {
      chain = ap (is_chain l) c.into_vec.ensures ∙ climbed_chain l levels end c.loop-level.level c.loop-level.first chain i;
      led = subst (λ (xs : List ℕ). IsLed l levels end xs) (sym c.into_vec.ensures) i.led;
      long = let s : length chain ≡ level_at levels end = omega (arith, least, most, long) in ap length c.into_vec.ensures ∙ s;
    }
