-- Proof that the loop of `digits_in` keeps its invariant, and what is returned after it.
use Rattle.std.proofs.Common.{◌≡◌, ◌<◌, ℕ, length, get_or, Some, sym, ap, ◌∙◌, subst, arith, take_all}
use Rattle.std.proofs.lemmas.Bool.Decides.{nat_tests}
use Rattle.std.proofs.lemmas.Int.Digits.{digits_more, digits_value_more}
use Rattle.std.specs.Char.{digit_value}
use Rattle.std.specs.Str.Parse.{AllDigits, digits_value}
use Rattle.serde_json.specs.Data.{unsigned}
use Rattle.borrowed_json.proofs.Digits.{digit_below, digits_read}
use Rattle.borrowed_json.proofs.numbers.digits_in.Goals as goal

pub loop-byte-preserved : goal.loop-byte-preserved
loop-byte-preserved c =
    let bytes = c.args.bytes.now in
    let i = c.loop-byte.byte-index in
    let digit : digit_value (get_or bytes i 0) ≡ c.from.result = grind (arith, nat_tests) in
    let below : digit_value (get_or bytes i 0) < 10 = digit_below (get_or bytes i 0) (sym c.if-not-is_ascii_digit.ensures.value) in (
      omega (arith, digits_value_more 10 bytes i c.loop-byte-test.true, digit, c.loop-byte.invariant.0),
      digits_more 10 bytes i c.loop-byte-test.true c.loop-byte.invariant.1 below,
      omega (arith, digit, below),
    )

pub returns : goal.returns
returns c =
    let bytes = c.args.bytes.now in
    let all = take_all c.loop-byte.byte-index bytes c.loop-byte-test.false in
    let value : c.loop-byte.number ≡ digits_value 10 bytes = c.loop-byte.invariant.0 ∙ ap (digits_value 10) all in
    let some : 0 < length bytes = grind (arith, nat_tests) in
    digits_read bytes (subst (AllDigits 10) all c.loop-byte.invariant.1) some (omega (arith, value, c.loop-byte.invariant.2))
    ∙ ap (λ (n : ℕ). Some (unsigned n)) (sym value)
