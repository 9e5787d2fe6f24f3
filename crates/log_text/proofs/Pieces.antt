-- Pieces at the beginning of a text.
use Rattle.std.proofs.Common.{◌≡◌, ◌≤◌, ◌<◌, ◌+◌, ◌*◌, ◌^◌, ◌∙◌, ◌∷◌, ◌++◌, [], ℕ, decimal, codes, sym, ap, ap₂, arith, lit<}
use Rattle.std.proofs.lemmas.Fmt.{decimal_digit, decimal_step}

-- the answer 0 of a prepare
pub answered_zero : decimal 0 ≡ codes "0"
answered_zero = decimal_digit 0 (lit< tt)

-- the number that one digit spells
pub one_digit : (n byte : ℕ) → byte ≡ 48 + n → n ≤ 9 → decimal n ≡ byte ∷ []
one_digit n byte is few = decimal_digit n (omega (arith, few)) ∙ ap (λ (b : ℕ). b ∷ []) (sym is)

-- a number that is not 0, with one digit more
pub one_digit_more : (n d : ℕ) → 0 < n → d ≤ 9 → n * 10 + d < 2 ^ 64 → decimal (n * 10 + d) ≡ decimal n ++ (48 + d) ∷ []
one_digit_more n d some few fits =
    decimal_step (n * 10 + d) (omega (arith, some)) fits
    ∙ ap₂ (λ (front last : ℕ). decimal front ++ (48 + last) ∷ []) (omega (arith, few)) (omega (arith, few))
