-- Proof by hand of `number_in`: what it returns, by the lemmas of `Numbers`.
use Rattle.std.proofs.Common.{◌≡◌, ◌∙◌, ◌<◌, ◌⊎◌, inl, inr, sym, ap, true}
use Rattle.std.specs.List.{list_all}
use Rattle.sleep_base.specs.Digits.{is_digit}
use Rattle.command_line.specs.Words.{has_no_zero_before}
use Rattle.command_line.proofs.Numbers.{number_inside, number_outside, number_beyond}
use Rattle.command_line.proofs.number.number_in.Goals as goal

pub returns-then-number-most : goal.returns-then-number-most
returns-then-number-most c =
    let digits : list_all is_digit c.as_bytes-bytes.result.now ≡ true = sym c.are_digits.ensures ∙ c.if-not-are_digits.false in
    let first : has_no_zero_before c.as_bytes-bytes.result.now ≡ true = sym (c.has_no_zero_before.ensures digits) ∙ c.if-not-has_no_zero_before.false in
    let same = c.as_bytes-bytes.ensures.value in
    number_inside c.args.least c.args.most c.args.word.now c.parse.result c.in-Ok.number c.parse.ensures.value.0 (ap (list_all is_digit) (sym same) ∙ digits) (ap has_no_zero_before (sym same) ∙ first)
    c.in-Ok.is c.if-least-number.true c.if-number-most.true

pub returns-else-least-number : goal.returns-else-least-number
returns-else-least-number c =
    let digits : list_all is_digit c.as_bytes-bytes.result.now ≡ true = sym c.are_digits.ensures ∙ c.if-not-are_digits.false in
    let first : has_no_zero_before c.as_bytes-bytes.result.now ≡ true = sym (c.has_no_zero_before.ensures digits) ∙ c.if-not-has_no_zero_before.false in
    let same = c.as_bytes-bytes.ensures.value in
    let out : (c.in-Ok.number < c.args.least) ⊎ (c.args.most < c.in-Ok.number) = elim c.else-least-number.either [ inl h ↦ inr h.1 | inr h ↦ inl h ] in
    number_outside c.args.least c.args.most c.args.word.now c.parse.result c.in-Ok.number c.parse.ensures.value.0 (ap (list_all is_digit) (sym same) ∙ digits) (ap has_no_zero_before (sym same) ∙ first)
    c.in-Ok.is out

pub returns-in_default : goal.returns-in_default
returns-in_default c =
    let digits : list_all is_digit c.as_bytes-bytes.result.now ≡ true = sym c.are_digits.ensures ∙ c.if-not-are_digits.false in
    let first : has_no_zero_before c.as_bytes-bytes.result.now ≡ true = sym (c.has_no_zero_before.ensures digits) ∙ c.if-not-has_no_zero_before.false in
    let same = c.as_bytes-bytes.ensures.value in
    number_beyond c.args.least c.args.most c.args.word.now c.parse.result c.in_default.field-0 c.parse.ensures.value.0 (ap (list_all is_digit) (sym same) ∙ digits)
    (ap has_no_zero_before (sym same) ∙ first) c.in_default.is c.ranges.most.fits
