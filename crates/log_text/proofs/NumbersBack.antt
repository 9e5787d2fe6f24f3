-- Numbers are read back.
use Rattle.std.proofs.Common.{◌≡◌, ◌∙◌, ℕ, ◌+◌, ◌-◌, ◌*◌, ◌<◌, ◌≤◌, ◌/◌, ◌%◌, ◌^◌, true, List, [], ◌∷◌, ◌++◌, length, decimal, Option, Some, None, refl, ap, arith}
use Rattle.std.specs.Prelude.{option_and_then}
use Rattle.std.proofs.lemmas.Bool.Decides.{nat_tests}
use Rattle.std.proofs.lemmas.Fmt.{decimal_by_steps, decimal_nonempty}
use Rattle.sleep_model.specs.Fits.{is_word32, is_word64}
use Rattle.sleep_base.specs.Digits.{is_digit}
use Rattle.log_text.specs.Cutting.{digit_after, number_after, word64, word32, short}

-- a digit more
digit_back : (a d : ℕ) → d < 10 → a * 10 + d < 2 ^ 64 → digit_after a (48 + d) ≡ Some (a * 10 + d)
digit_back a d l h =
    let plain : a * 10 + (48 + d - 48) ≡ a * 10 + d = omega arith in
    let digit : is_digit (48 + d) ≡ true = grind (arith, nat_tests) in
    let fits : is_word64 (a * 10 + d) ≡ true = grind (arith, nat_tests) in
    rw (digit, plain, fits) refl

and_some : (o : Option ℕ) → option_and_then (λ k. number_after k []) o ≡ o
and_some None = refl
and_some (Some k) = refl

-- the last digit comes last
number_push : (a : ℕ) (ds : List ℕ) (d : ℕ) → number_after a (ds ++ d ∷ []) ≡ option_and_then (λ k. digit_after k d) (number_after a ds)
number_push a [] d = and_some (digit_after a d)
number_push a (x ∷ ds) d = on (digit_after a x) (λ k. number_push k ds d)
  where
    on : (o : Option ℕ) → ((k : ℕ) → number_after k (ds ++ d ∷ []) ≡ option_and_then (λ j. digit_after j d) (number_after k ds)) → option_and_then (λ k. number_after k (ds ++ d ∷ [])) o ≡ option_and_then (λ k. digit_after k d) (option_and_then (λ k. number_after k ds) o)
    on None ih = refl
    on (Some k) ih = ih k

number_back : (n : ℕ) → n < 2 ^ 64 → number_after 0 (decimal n) ≡ Some n
number_back n h = decimal_by_steps (λ k ds. k < 2 ^ 64 → number_after 0 ds ≡ Some k) one more n h h
  where
    one : (k : ℕ) → k < 10 → k < 2 ^ 64 → number_after 0 ((48 + k) ∷ []) ≡ Some k
    one k l b =
        let plain : 0 * 10 + k ≡ k = omega arith in
        and_some (digit_after 0 (48 + k)) ∙ digit_back 0 k l (omega arith) ∙ ap Some plain

    more : (k : ℕ) (ds : List ℕ) → 10 ≤ k → ((k / 10) < 2 ^ 64 → number_after 0 ds ≡ Some (k / 10)) → k < 2 ^ 64 → number_after 0 (ds ++ ((48 + k % 10) ∷ [])) ≡ Some k
    more k ds l ih b =
        let whole : (k / 10) * 10 + k % 10 ≡ k = omega arith in
        number_push 0 ds (48 + k % 10)
        ∙ ap (option_and_then (λ j. digit_after j (48 + k % 10))) (ih (omega arith))
        ∙ digit_back (k / 10) (k % 10) (omega arith) (omega arith)
        ∙ ap Some whole

filled : (ds : List ℕ) → 0 < length ds → word64 ds ≡ number_after 0 ds
filled [] h = absurd (omega arith)
filled (b ∷ ds) h = refl

below : (n : ℕ) → is_word64 n ≡ true → n < 2 ^ 64
below n h = grind (arith, nat_tests)

-- a number of 64 bits is read back
pub word64_back : (n : ℕ) → is_word64 n ≡ true → word64 (decimal n) ≡ Some n
word64_back n h = filled (decimal n) (decimal_nonempty n (below n h)) ∙ number_back n (below n h)

-- one of 32 bits too
pub word32_back : (n : ℕ) → is_word32 n ≡ true → word32 (decimal n) ≡ Some n
word32_back n h =
    let wide : is_word64 n ≡ true = grind (arith, nat_tests) in
    ap (option_and_then short) (word64_back n wide) ∙ rw h refl

pub below64 : (n : ℕ) → is_word64 n ≡ true → n < 2 ^ 64
below64 n h = below n h

pub below32 : (n : ℕ) → is_word32 n ≡ true → n < 2 ^ 64
below32 n h = grind (arith, nat_tests)
