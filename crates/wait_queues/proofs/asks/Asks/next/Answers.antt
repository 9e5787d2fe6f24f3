-- Proof that `Asks::next` meets its contract, and that it meets what `lowest_of` requires.
use Rattle.std.proofs.Common.{◌≡◌, ◌+◌, ◌*◌, ◌-◌, ◌/◌, ◌%◌, ◌^◌, ◌<◌, ℕ, get_or, arith, ap, ◌∙◌}
use Rattle.std.specs.Int.{trailing_zeros, w64}
use Rattle.std.specs.Prelude.{min, bit_and}
use Rattle.wait_queues.proofs.NumberSetBits.{next_here, next_none, next_later, some_there}
use Rattle.wait_queues.proofs.asks.Asks.next.Goals as goal

pub returns-then-left-ne0-clause-next : goal.returns-then-left-ne0-clause-next
returns-then-left-ne0-clause-next c =
    let words = c.self.inside.words.items in
    let from = c.args.from in
    let read : c.word_of.result ≡ get_or words (from / 64) 0 = c.word_of.ensures ∙ ap (λ x. get_or x (from / 64) 0) c.deref.ensures.value in
    rw (← c.self.view_is)
    (next_here words c.self.inside.full c.self.invariant from c.args.many _ read c.lowest_of.result (omega arith) c.lowest_of.ensures)

pub returns-then-full-eq0-clause-next : goal.returns-then-full-eq0-clause-next
returns-then-full-eq0-clause-next c =
    let words = c.self.inside.words.items in
    let from = c.args.from in
    let read : c.word_of.result ≡ get_or words (from / 64) 0 = c.word_of.ensures ∙ ap (λ x. get_or x (from / 64) 0) c.deref.ensures.value in
    let least : c.min.result ≡ min (from / 64 + 1) 63 = omega (arith, c.min.ensures) in
    rw (← c.self.view_is)
    (next_none words c.self.inside.full c.self.invariant from c.args.many _ read (omega arith) c.min.result least (omega arith))

-- the word of the first later row
abbrev row_of : ℕ → ℕ → ℕ
row_of full place = trailing_zeros w64 (bit_and full ((2 ^ 64 - 1) * 2 ^ place % 2 ^ 64))

pub lowest_of-requires-2-clause-word : goal.lowest_of-requires-2-clause-word
lowest_of-requires-2-clause-word c =
    let words = c.self.inside.words.items in
    let from = c.args.from in
    let full = c.self.inside.full in
    let read : c.word_of.result ≡ get_or words (from / 64) 0 = c.word_of.ensures ∙ ap (λ x. get_or x (from / 64) 0) c.deref.ensures.value in
    let there : c.word_of-2.result ≡ get_or words (row_of full c.min.result) 0 = c.word_of-2.ensures ∙ ap (λ x. get_or x (row_of full c.min.result) 0) c.deref-2.ensures.value in
    let least : c.min.result ≡ min (from / 64 + 1) 63 = omega (arith, c.min.ensures) in
    let full_fits : full < 2 ^ 64 = omega arith in
    omega (arith, some_there words full c.self.invariant from c.args.many c.word_of.result read (omega arith) c.min.result least full_fits (omega arith))

pub returns-clause-next : goal.returns-clause-next
returns-clause-next c =
    let words = c.self.inside.words.items in
    let from = c.args.from in
    let full = c.self.inside.full in
    let read : c.word_of.result ≡ get_or words (from / 64) 0 = c.word_of.ensures ∙ ap (λ x. get_or x (from / 64) 0) c.deref.ensures.value in
    let there : c.word_of-2.result ≡ get_or words (row_of full c.min.result) 0 = c.word_of-2.ensures ∙ ap (λ x. get_or x (row_of full c.min.result) 0) c.deref-2.ensures.value in
    let least : c.min.result ≡ min (from / 64 + 1) 63 = omega (arith, c.min.ensures) in
    let full_fits : full < 2 ^ 64 = omega arith in
    rw (← c.self.view_is)
    (next_later words full c.self.invariant from c.args.many c.word_of.result read (omega arith) c.min.result least full_fits (omega arith)
    c.lowest_of-2.result c.word_of-2.result there c.lowest_of-2.ensures)
