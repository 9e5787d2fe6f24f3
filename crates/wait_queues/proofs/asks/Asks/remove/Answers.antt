-- Proof that `Asks::remove` meets its contract, and that it keeps the invariant of its type.
use Rattle.std.proofs.Common.{◌≡◌, ◌+◌, ◌*◌, ◌/◌, ◌%◌, ◌^◌, ◌<◌, ◌≤◌, ℕ, false, set, get_or, length, arith, sym, ap, ◌∙◌}
use Rattle.std.proofs.lemmas.List.{get_or_read, set_past}
use Rattle.std.proofs.lemmas.Nat.{and_le_l}
use Rattle.std.specs.Int.{w64, bit_not}
use Rattle.std.specs.Prelude.{bit_and}
use Rattle.wait_queues.specs.NumberSets.{bits_of}
use Rattle.wait_queues.proofs.NumberSetBits.{bits_of-remove, marked-none, marked-same, length-bits_of}
use Rattle.wait_queues.proofs.asks.Asks.remove.Goals as goal

pub invariant_of-self : goal.invariant_of-self
invariant_of-self c =
    marked-none c.self.inside.words.items c.self.inside.full c.self.invariant (c.args.number / 64) _ (omega arith) (omega arith)

pub invariant_of-self-else-word-eq0 : goal.invariant_of-self-else-word-eq0
invariant_of-self-else-word-eq0 c =
    let words = c.self.inside.words.items in
    let word = c.index.result.now in
    let read : word ≡ get_or words (c.args.number / 64) 0 = get_or_read words (c.args.number / 64) _ (omega arith) c.index.ensures 0 in
    let small : bit_and word (bit_not w64 (1 * 2 ^ (c.args.number % 64) % 2 ^ 64)) ≤ word = and_le_l word _ in
    marked-same words c.self.inside.full c.self.invariant (c.args.number / 64) _ (omega arith)
    (omega (arith, c.self.invariant.fits (c.args.number / 64)))
    (omega arith)
    (omega arith)

pub returns-then-word-eq0 : goal.returns-then-word-eq0
returns-then-word-eq0 c =
    let words = c.self.inside.words.items in
    let read : c.index.result.now ≡ get_or words (c.args.number / 64) 0 =
    get_or_read words (c.args.number / 64) _ (omega arith) c.index.ensures 0 in
    rw (← c.self.view_is)
    (ap (λ x. bits_of (set words (c.args.number / 64) (bit_and x (bit_not w64 (1 * 2 ^ (c.args.number % 64) % 2 ^ 64))))) read
    ∙ bits_of-remove words c.args.number (omega arith))

pub returns-else-word-eq0 : goal.returns-else-word-eq0
returns-else-word-eq0 c =
    let words = c.self.inside.words.items in
    let read : c.index.result.now ≡ get_or words (c.args.number / 64) 0 =
    get_or_read words (c.args.number / 64) _ (omega arith) c.index.ensures 0 in
    rw (← c.self.view_is)
    (ap (λ x. bits_of (set words (c.args.number / 64) (bit_and x (bit_not w64 (1 * 2 ^ (c.args.number % 64) % 2 ^ 64))))) read
    ∙ bits_of-remove words c.args.number (omega arith))

pub returns-else-at-len : goal.returns-else-at-len
returns-else-at-len c =
    sym (set_past c.args.self.now c.args.number false (omega (arith, length-bits_of c.self.inside.words.items, ap length c.self.view_is)))
