-- A text of digits is the number that the digits write.
use Rattle.std.proofs.Common.{◌≡◌, ℕ, ◌==◌, ◌^◌, ◌<◌, ◌∙◌, ◌&&◌, List, [], ◌∷◌, ◌++◌, length, get_or, true, false, not, Some, refl, sym, ap, subst, arith, append-nil, lt-ltb, ne_eqb}
use Rattle.std.proofs.lemmas.Bool.{and_from, and_parts, cond-true, leb-true}
use Rattle.std.proofs.lemmas.Str.{digit_value_digit}
use Rattle.std.proofs.lemmas.Str.Parse.{digit_from_value}
use Rattle.std.specs.Char.{digit_value, is_ascii_digit}
use Rattle.std.specs.Prelude.{nat_le}
use Rattle.std.specs.Str.Parse.{AllDigits, digits_value}
use Rattle.fast_float.specs.Text.{Parts, scan, digits_of, IsWellFormed}
use Rattle.fast_float.proofs.Writing.{scan-text_of}
use Rattle.serde_json.specs.Data.{unsigned}
use Rattle.serde_json.specs.Read.{number_of, number_from, is_integer}

-- a digit is worth less than ten
pub digit_below : (c : ℕ) → is_ascii_digit c ≡ true → digit_value c < 10
digit_below c e =
    let range = and_parts (nat_le 48 c) (nat_le c 57) e in
    let least = leb-true 48 c range.0 in
    let most = leb-true c 57 range.1 in
    let worth = digit_value_digit c (least, most) in
    omega (arith, most, worth)

no_minus : (ds : List ℕ) → AllDigits 10 ds → 0 < length ds → (get_or ds 0 0 == 45) ≡ false
no_minus [] h some = absurd (omega arith)
no_minus (d ∷ ds) h some = let r = digit_from_value d h.0 in ne_eqb d 45 (λ e. omega arith)

-- the parts of a text of digits
abbrev digits : List ℕ → Parts
digits ds = record { whole = ds; point = false; fraction = []; exponent_negative = false; exponent = []; len = length (ds ++ []) }

digits_scanned : (ds : List ℕ) → AllDigits 10 ds → scan ds ≡ digits ds
digits_scanned ds h =
    let formed : IsWellFormed (digits ds) = record { whole_digits = h; fraction_digits = tt; exponent_digits = tt; no_point = λ _. refl; no_exponent = λ _. refl; len_is = refl } in
    subst (λ (s : List ℕ). scan s ≡ digits ds) (append-nil ds) (scan-text_of (digits ds) formed)

digits_number : (ds : List ℕ) → 0 < length ds → digits_value 10 ds < 2 ^ 64 → number_from false (digits ds) ≡ Some (unsigned (digits_value 10 ds))
digits_number ds some small =
    let value : digits_of (digits ds) ≡ digits_value 10 ds = ap (digits_value 10) (append-nil ds) in
    let whole : is_integer (digits ds) ≡ true = and_from _ _ (and_from _ _ (lt-ltb _ _ some) refl) refl in
    let fits : digits_of (digits ds) < 2 ^ 64 = subst (λ (n : ℕ). n < 2 ^ 64) (sym value) small in
    cond-true _ _ _ (and_from _ _ whole (lt-ltb _ _ fits)) ∙ ap (λ (n : ℕ). Some (unsigned n)) value

pub digits_read : (ds : List ℕ) → AllDigits 10 ds → 0 < length ds → digits_value 10 ds < 2 ^ 64 → number_of ds ≡ Some (unsigned (digits_value 10 ds))
unfolding number_of
digits_read ds h some small =
    let plain = no_minus ds h some in
    let read : number_from false (scan ds) ≡ number_of ds = rw plain in
    sym read ∙ ap (number_from false) (digits_scanned ds h) ∙ digits_number ds some small
