-- Proof that `Asks::insert` meets its contract, and that it keeps the invariant of its type.
use Rattle.std.proofs.Common.{◌≡◌, ◌+◌, ◌*◌, ◌/◌, ◌%◌, ◌^◌, ◌<◌, ◌≤◌, ℕ, true, set, get_or, length, arith, sym, ap, ◌∙◌}
use Rattle.std.proofs.lemmas.List.{get_or_read, set_past}
use Rattle.std.proofs.lemmas.Nat.Bits.{bit_at_set_same}
use Rattle.std.specs.Int.{w64}
use Rattle.std.proofs.lemmas.Nat.{or_lt}
use Rattle.std.specs.Prelude.{bit_or}
use Rattle.wait_queues.specs.NumberSets.{bits_of}
use Rattle.wait_queues.proofs.NumberSetBits.{bits_of-insert, marked-some, some_bit, length-bits_of}
use Rattle.wait_queues.proofs.asks.Asks.insert.Goals as goal

pub invariant_of-self : goal.invariant_of-self
invariant_of-self c =
    let word = c.index-word.result.now in
    let read : word ≡ get_or c.self.inside.words.items (c.args.number / 64) 0 =
    get_or_read c.self.inside.words.items (c.args.number / 64) _ (omega arith) c.index-word.ensures 0 in
    marked-some c.self.inside.words.items c.self.inside.full c.self.invariant (c.args.number / 64) _ (omega arith)
    (or_lt 64 word _ (omega (arith, c.self.invariant.fits (c.args.number / 64))) (omega arith))
    (some_bit _ (c.args.number % 64) (bit_at_set_same w64 c.index-word.result.now (c.args.number % 64) (omega arith)))

pub returns-then-at-len : goal.returns-then-at-len
returns-then-at-len c =
    let words = c.self.inside.words.items in
    let read : c.index-word.result.now ≡ get_or words (c.args.number / 64) 0 =
    get_or_read words (c.args.number / 64) _ (omega arith) c.index-word.ensures 0 in
    rw (← c.self.view_is)
    (ap (λ x. bits_of (set words (c.args.number / 64) (bit_or x (1 * 2 ^ (c.args.number % 64) % 2 ^ 64)))) read
    ∙ bits_of-insert words c.args.number (omega arith))

pub returns-else-at-len : goal.returns-else-at-len
returns-else-at-len c =
    sym (set_past c.args.self.now c.args.number true (omega (arith, length-bits_of c.self.inside.words.items, ap length c.self.view_is)))
