-- Proof by hand of `first_indices`: its loop and what it returns, by the lemmas of `Placing`.
use Rattle.std.proofs.Common.{◌≡◌, ◌<◌, ◌+◌, ◌-◌, ◌∙◌, ℕ, length, arith, sym, ap, subst}
use Rattle.std.specs.Map.{lookup}
use Rattle.indexmap.specs.IndexMap.{get}
use Rattle.key_index.proofs.Placing.{placed, placed_more, placed_all, placed_none}
use Rattle.key_index.proofs.index.first_indices.Goals as goal

pub loop-i-preserved : goal.loop-i-preserved
loop-i-preserved g c =
    let back : c.loop-i.i ≡ (c.loop-i.i - 1) + 1 = omega arith in
    let within : c.loop-i.i - 1 < length c.args.keys.now = omega arith in
    let before = subst (λ (n : ℕ). (k : g.row.K.Denot) → get g.K.PartialEq.eq c.loop-i.indices k ≡ placed g.K.PartialEq.eq g.met.K.Eq.laws c.args.keys.now n k) back c.loop-i.invariant in
    placed_more g.K.PartialEq.eq g.met.K.Eq.laws c.args.keys.now (c.loop-i.i - 1) c.index-keys-i.result within c.index-keys-i.is
    (get g.K.PartialEq.eq c.loop-i.indices) (get g.K.PartialEq.eq c.insert.new.self) before c.in_ok-insert.ensures.updates.0

pub loop-i-init : goal.loop-i-init
loop-i-init g c = λ (k : g.row.K.Denot). ap (lookup (g.K.PartialEq.eq k)) c.in_ok-indices.ensures.empty ∙ sym (placed_none g.K.PartialEq.eq g.met.K.Eq.laws c.args.keys.now k)

pub returns : goal.returns
returns g c = λ k. c.loop-i.invariant k ∙ placed_all g.K.PartialEq.eq g.met.K.Eq.laws c.args.keys.now c.loop-i.i (omega arith) k
