-- Proof that `Asks::is_only` meets its contract.
use Rattle.std.proofs.Common.{◌≡◌, ◌*◌, ◌/◌, ◌%◌, ◌^◌, ◌<◌, ℕ, get_or, eq-eqb, arith, sym, ap, ◌∙◌, true≢false}
use Rattle.std.proofs.lemmas.Bool.{eqb-true, ltb-true}
use Rattle.std.proofs.lemmas.Nat.{one_shl}
use Rattle.wait_queues.proofs.NumberSetBits.{is_only, only_word, only_in, only_full}
use Rattle.wait_queues.proofs.asks.Asks.is_only.Goals.{then-at-lt64, else-at-lt64}
use Rattle.wait_queues.proofs.asks.Asks.is_only.Goals as goal

pub returns-then-self-at : goal.returns-then-self-at
returns-then-self-at c =
    let words = c.self.inside.words.items in
    let full = c.self.inside.full in
    let n = c.args.number in
    let word : c.word_of.result ≡ get_or words (n / 64) 0 = c.word_of.ensures ∙ ap (λ x. get_or x (n / 64) 0) c.deref.ensures.value in
    let bit : 1 * 2 ^ (n % 64) % 2 ^ 64 ≡ 2 ^ (n % 64) = one_shl (n % 64) 64 (omega arith) in
    elim c.if-at-lt64.branch [
      | then-at-lt64 w ↦
          let full_is : full ≡ 2 ^ (n / 64) = eqb-true _ _ (sym w.value-is ∙ c.if-self-at.true) ∙ one_shl (n / 64) 64 (omega arith) in
          rw (← c.self.view_is) (
            λ same. is_only words full n c.self.invariant full_is (sym word ∙ eqb-true _ _ same ∙ bit),
            λ only. eq-eqb _ _ (word ∙ only_word words full n c.self.invariant only ∙ sym bit),
          )
      | else-at-lt64 w ↦ let within : n / 64 < 64 = ltb-true (n / 64) 64 (sym w.value-is ∙ c.if-self-at.true) in absurd (omega arith)
    ]

pub returns-else-self-at : goal.returns-else-self-at
returns-else-self-at c =
    let words = c.self.inside.words.items in
    let full = c.self.inside.full in
    let n = c.args.number in
    rw (← c.self.view_is) (
      λ is. absurd (true≢false (sym is ∙ c.if-self-at.false)),
      λ only. absurd (elim c.if-at-lt64.branch [
        | then-at-lt64 w ↦
            let full_fits : full < 2 ^ 64 = omega arith in
            true≢false
            (sym (eq-eqb full _ (only_full words full n c.self.invariant full_fits only ∙ sym (one_shl (n / 64) 64 (omega arith))))
            ∙ sym w.value-is
            ∙ c.if-self-at.false)
        | else-at-lt64 w ↦ omega (arith, only_in words full n c.self.invariant only)
      ]),
    )
