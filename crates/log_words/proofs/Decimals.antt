-- The text of a number, two digits at a time, and how long it is.
use Rattle.std.proofs.Common.{ℕ, zero, suc, ◌≡◌, ◌+◌, ◌-◌, ◌*◌, ◌/◌, ◌%◌, ◌<◌, ◌≤◌, ◌^◌, ◌∙◌, Bool, true, ◌&&◌, T, eqb, get_or, ap, inl, inr, eq-zero-or-pos, eqb→eq, length, length-append, decimal, arith}
use Rattle.std.proofs.lemmas.Fmt.{decimal_step, length-decimal-le}
use lib.Ieee.Fits.{and_l, and_r}
use Rattle.log_words.specs.declared.digits.TheConstants.{PAIRS}

-- a number of 64 bits has at most 20 digits
pub decimal_short : (n : ℕ) → n < 2 ^ 64 → length (decimal n) ≤ 20
decimal_short n h = length-decimal-le 20 n (omega arith) (omega arith) h

-- a number of 32 bits has at most 10 digits
pub decimal_short32 : (n : ℕ) → n < 2 ^ 32 → length (decimal n) ≤ 10
decimal_short32 n h = length-decimal-le 10 n (omega arith) (omega arith) (omega arith)

-- a number from 10 on has one digit more than its tenth part
pub length_step : (n : ℕ) → 10 ≤ n → n < 2 ^ 64 → length (decimal n) ≡ length (decimal (n / 10)) + 1
length_step n lo hi = ap length (decimal_step n lo hi) ∙ length-append _ _

abbrev are_pairs : ℕ → Bool
are_pairs zero = true
are_pairs (suc p) = (eqb (get_or PAIRS (p * 2) 0) (48 + p / 10) && eqb (get_or PAIRS (p * 2 + 1) 0) (48 + p % 10)) && are_pairs p

below : (n p : ℕ) → T (are_pairs n) → p < n → (get_or PAIRS (p * 2) 0 ≡ 48 + p / 10) × (get_or PAIRS (p * 2 + 1) 0 ≡ 48 + p % 10)
below zero p t h = absurd (omega arith)
below (suc n) p t h =
    elim (eq-zero-or-pos (n - p)) [
      | inl z ↦ let e : p ≡ n = omega arith in let a = and_l _ (are_pairs n) t in rw e (eqb→eq _ _ (and_l _ _ a), eqb→eq _ _ (and_r _ _ a))
      | inr g ↦ below n p (and_r _ (are_pairs n) t) (omega arith)
    ]

-- the table has the two digits of each number below 100
pub pairs_at : (p : ℕ) → p < 100 → (get_or PAIRS (p * 2) 0 ≡ 48 + p / 10) × (get_or PAIRS (p * 2 + 1) 0 ≡ 48 + p % 10)
pairs_at p h = below 100 p tt h
