-- Proof that `Asks::add` meets its contract, and that it keeps the invariant of its type.
use Rattle.std.proofs.Common.{◌≡◌, ◌+◌, ◌-◌, ◌*◌, ◌%◌, ◌^◌, ◌<◌, ℕ, length, get_or, arith, sym, ap, subst, ◌∙◌}
use Rattle.std.specs.Int.{bit_not, w64}
use Rattle.std.specs.Prelude.{bit_and, bit_or}
use Rattle.wait_queues.specs.NumberSets.{AreMarked}
use Rattle.wait_queues.proofs.NumberSetBits.{bits_of-union, marked-union}
use Rattle.wait_queues.proofs.asks.Asks.add.Goals as goal

pub invariant_of-self : goal.invariant_of-self
invariant_of-self c =
    let words = c.self.inside.words.items in
    let others = c.other.inside.words.items in
    let changed = c.loop-at.self-inside.words.items in
    let all = c.loop-at.invariant.0 in
    let long : c.len-length.result ≡ length words = omega (arith, all.long, c.loop-at.invariant.1) in
    let both : (k : ℕ) → k < length words → get_or changed k 0 ≡ bit_or (get_or words k 0) (get_or others k 0) = λ k within. all.below k (omega arith) in
    subst (λ (x : ℕ). AreMarked changed (bit_or c.loop-at.self-inside.full (bit_and c.other.inside.full (bit_not w64 ((2 ^ 64 - 1) * 2 ^ x % 2 ^ 64))))) (sym long)
    (subst (λ (x : ℕ). AreMarked changed (bit_or x (bit_and c.other.inside.full (bit_not w64 ((2 ^ 64 - 1) * 2 ^ length words % 2 ^ 64))))) (sym c.loop-at.invariant.2)
    (marked-union words others changed all.long both c.self.inside.full c.other.inside.full c.self.invariant c.other.invariant))

pub returns : goal.returns
returns c =
    let words = c.self.inside.words.items in
    let all = c.loop-at.invariant.0 in
    rw (← c.self.view_is, ← c.other.view_is)
    (bits_of-union words c.other.inside.words.items c.loop-at.self-inside.words.items all.long (λ k within. all.below k (omega (arith, all.long, c.loop-at.invariant.1))))
