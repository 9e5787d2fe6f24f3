-- Proof that `Asks::has` meets its contract.
use Rattle.std.proofs.Common.{◌≡◌, ◌/◌, ◌%◌, ℕ, get_or, eqb, arith, sym, ap, ◌∙◌}
use Rattle.std.specs.Int.{bit_at}
use Rattle.wait_queues.specs.NumberSets.{is_in}
use Rattle.wait_queues.proofs.NumberSetBits.{has_bit, is_in-bits_of}
use Rattle.wait_queues.proofs.asks.Asks.has.Goals as goal

pub returns : goal.returns
returns c =
    let words = c.self.inside.words.items in
    let word : c.word_of.result ≡ get_or words (c.args.number / 64) 0 = c.word_of.ensures ∙ ap (λ x. get_or x (c.args.number / 64) 0) c.deref.ensures.value in
    has_bit c.word_of.result (c.args.number % 64) (omega arith)
    ∙ ap (λ x. eqb (bit_at x (c.args.number % 64)) 1) word
    ∙ sym (is_in-bits_of words c.args.number)
    ∙ ap (λ x. is_in x c.args.number) c.self.view_is
