-- Digits that are read as a number.
use Rattle.std.proofs.Common.{ℕ, ◌≡◌, ◌∙◌, ◌⊎◌, ◌+◌, ◌-◌, ◌*◌, ◌^◌, ◌<◌, ◌≤◌, ◌&&◌, Bool, cond, true, false, List, [], ◌∷◌, drop, Some, None, Result, Ok, Err, refl, sym, ap, subst, inl, inr, arith, eqb, fold, true≢false, leb-true, le-leb, eqb-true}
use Rattle.std.specs.Prelude.{nat_le}
use Rattle.std.specs.List.{list_all}
use Rattle.std.specs.Char.{digit_value}
use Rattle.std.specs.Str.Parse.{AllDigits, IsNumeral, ParsesUnsigned, digits_value, digits_value_after, without_leading_plus}
use Rattle.std.proofs.lemmas.Str.{digit_value_digit}
use Rattle.std.proofs.lemmas.Bool.{lt-leb}
use Rattle.std.proofs.lemmas.Bool.Decides.{leb_tells}
use Rattle.clap.proofs.WalkLemmas.{both}
use Rattle.sleep_base.specs.Digits.{is_digit}
use Rattle.command_line.specs.Words.{has_no_zero_before, number_in, value_of}

-- a digit's value
digit_is : (d : ℕ) → is_digit d ≡ true → (48 ≤ d) × (d ≤ 57) × (digit_value d + 48 ≡ d)
digit_is d e =
    let two = both (nat_le 48 d) (nat_le d 57) e in
    let least : 48 ≤ d = leb-true 48 d two.0 in
    let most : d ≤ 57 = leb-true d 57 two.1 in
    (least, most, digit_value_digit d (least, most))

-- digits spell the number that the definition gives
digits_are : (n : ℕ) (ds : List ℕ) → list_all is_digit ds ≡ true → AllDigits 10 ds × (digits_value_after 10 n ds ≡ fold (λ n b. 10 * n + (b - 48)) n ds)
digits_are n [] e = (tt, refl)
digits_are n (d ∷ ds) e =
    let two = both (is_digit d) (list_all is_digit ds) e in
    let digit = digit_is d two.0 in
    let next : n * 10 + digit_value d ≡ 10 * n + (d - 48) = omega (arith, digit.0, digit.2) in
    let rest = digits_are (n * 10 + digit_value d) ds two.1 in
    let under : digit_value d < 10 = omega (arith, digit.1, digit.2) in
    ((under, rest.0), rest.1 ∙ ap (λ k. fold (λ n b. 10 * n + (b - 48)) k ds) next)

-- no plus comes before digits
no_plus : (d : ℕ) (ds : List ℕ) → is_digit d ≡ true → without_leading_plus (d ∷ ds) ≡ d ∷ ds
no_plus d ds e = go (eqb d 43) refl
  where
    go : (b : Bool) → eqb d 43 ≡ b → drop (cond (eqb d 43) 1 0) (d ∷ ds) ≡ d ∷ ds
    go false f = ap (λ (b : Bool). drop (cond b 1 0) (d ∷ ds)) f
    go true f = absurd (true≢false (sym e ∙ ap is_digit (eqb-true d 43 f)))

-- a word of digits with no 0 before others spells its number
abbrev IsNumber : List ℕ → Type 0
IsNumber word = (list_all is_digit word ≡ true) × (has_no_zero_before word ≡ true)

spells : {E : Type 0} (word : List ℕ) (r : Result ℕ E) → ParsesUnsigned 64 10 word r → IsNumber word
    → ((n : ℕ) → r ≡ Ok n → n ≡ value_of word) × ((e : E) → r ≡ Err e → 2 ^ 64 ≤ value_of word)
spells {E = E} [] r h is = absurd (true≢false (sym is.1))
spells {E = E} (d ∷ ds) r h is = (
  λ n e. ok n (subst (λ r. ParsesUnsigned 64 10 (d ∷ ds) r) e h),
  λ x e. err x (subst (λ r. ParsesUnsigned 64 10 (d ∷ ds) r) e h),
)
  where
    same : without_leading_plus (d ∷ ds) ≡ d ∷ ds
    same = no_plus d ds (both (is_digit d) (list_all is_digit ds) is.0).0

    value : digits_value 10 (without_leading_plus (d ∷ ds)) ≡ value_of (d ∷ ds)
    value = ap (digits_value 10) same ∙ (digits_are 0 (d ∷ ds) is.0).1

    ok : (n : ℕ) → ParsesUnsigned {E = E} 64 10 (d ∷ ds) (Ok n) → n ≡ value_of (d ∷ ds)
    ok n h = h.1 ∙ value

    numeral : IsNumeral 10 (without_leading_plus (d ∷ ds))
    numeral = subst (IsNumeral 10) (sym same) (omega arith, (digits_are 0 (d ∷ ds) is.0).0)

    err : (x : E) → ParsesUnsigned {E = E} 64 10 (d ∷ ds) (Err x) → 2 ^ 64 ≤ value_of (d ∷ ds)
    err x h = go (leb_tells (2 ^ 64) (value_of (d ∷ ds)))
      where
        go : ((nat_le (2 ^ 64) (value_of (d ∷ ds)) ≡ true) × (2 ^ 64 ≤ value_of (d ∷ ds))) ⊎ ((nat_le (2 ^ 64) (value_of (d ∷ ds)) ≡ false) × (value_of (d ∷ ds) < 2 ^ 64)) → 2 ^ 64 ≤ value_of (d ∷ ds)
        go (inl k) = k.1
        go (inr k) = absurd (h (numeral, rw value k.1))

-- what the number comes to in its range
within : (least most : ℕ) (word : List ℕ) → IsNumber word → number_in least most word ≡ cond (nat_le least (value_of word) && nat_le (value_of word) most) (Some (value_of word)) None
within least most word is = rw (is.0, is.1) refl

never : (b : Bool) (n : ℕ) → cond (b && false) (Some n) None ≡ None
never true n = refl
never false n = refl

pub number_inside : {E : Type 0} (least most : ℕ) (word : List ℕ) (r : Result ℕ E) (n : ℕ) → ParsesUnsigned 64 10 word r → list_all is_digit word ≡ true → has_no_zero_before word ≡ true
    → r ≡ Ok n → least ≤ n → n ≤ most → Some n ≡ number_in least most word
number_inside least most word r n h digits first e low high =
    let v : n ≡ value_of word = (spells word r h (digits, first)).0 n e in
    let one : nat_le least (value_of word) ≡ true = le-leb least (value_of word) (omega arith) in
    let two : nat_le (value_of word) most ≡ true = le-leb (value_of word) most (omega arith) in
    let all : number_in least most word ≡ Some (value_of word) = within least most word (digits, first) ∙ rw (one, two) refl in
    ap (λ k. Some k) v ∙ sym all

pub number_outside : {E : Type 0} (least most : ℕ) (word : List ℕ) (r : Result ℕ E) (n : ℕ) → ParsesUnsigned 64 10 word r → list_all is_digit word ≡ true → has_no_zero_before word ≡ true
    → r ≡ Ok n → (n < least) ⊎ (most < n) → None ≡ number_in least most word
number_outside least most word r n h digits first e out =
    let v : n ≡ value_of word = (spells word r h (digits, first)).0 n e in
    sym (within least most word (digits, first) ∙ go v out)
  where
    go : n ≡ value_of word → (n < least) ⊎ (most < n) → cond (nat_le least (value_of word) && nat_le (value_of word) most) (Some (value_of word)) None ≡ None
    go v (inl low) = let no : nat_le least (value_of word) ≡ false = lt-leb least (value_of word) (omega arith) in rw no refl
    go v (inr high) =
        let no : nat_le (value_of word) most ≡ false = lt-leb (value_of word) most (omega arith) in
        ap (λ b. cond (nat_le least (value_of word) && b) (Some (value_of word)) None) no ∙ never (nat_le least (value_of word)) (value_of word)

pub number_beyond : {E : Type 0} (least most : ℕ) (word : List ℕ) (r : Result ℕ E) (x : E) → ParsesUnsigned 64 10 word r → list_all is_digit word ≡ true → has_no_zero_before word ≡ true
    → r ≡ Err x → most < 2 ^ 64 → None ≡ number_in least most word
number_beyond least most word r x h digits first e most_fits =
    let over = (spells word r h (digits, first)).1 x e in
    let no : nat_le (value_of word) most ≡ false = lt-leb (value_of word) most (omega (arith, over, most_fits)) in
    sym (within least most word (digits, first)
    ∙ ap (λ b. cond (nat_le least (value_of word) && b) (Some (value_of word)) None) no ∙ never (nat_le least (value_of word)) (value_of word))
