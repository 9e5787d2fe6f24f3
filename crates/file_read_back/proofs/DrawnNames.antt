-- The names of generated devices: how they are spelled, and that no two are one.
use Rattle.std.proofs.Common.{◌≡◌, ◌≢◌, ◌∙◌, ◌≤◌, ◌<◌, ◌+◌, ◌==◌, ◌&&◌, ◌||◌, ◌++◌, ℕ, zero, suc, List, [], ◌∷◌, map, length, drop, codes, Bool, true, false, not, cond, nat_le, bytes_eq, position, Some, None, option_map, unwrap_or, refl, sym, ap, arith, le-leb, eqb-true}
use Rattle.std.specs.Prelude.{decimal}
use Rattle.std.specs.List.{list_all, range_with_len}
use Rattle.std.specs.Cmp.Lexicographic.{bytes_decides}
use Rattle.std.specs.Str.Parse.{AllDigits}
use Rattle.std.proofs.lemmas.Bool.{and_from, eqb-false}
use Rattle.std.proofs.lemmas.Fmt.{decimal_injective, decimal_is_IsNumeral, length-decimal-le}
use Rattle.std.proofs.lemmas.Str.Parse.{digit_from_value}
use Rattle.file_rules.specs.Names.{is_among_names}
use Rattle.file_rules.specs.Places.{first_not_after}
use Rattle.sleep_model.specs.NameBytes.{is_name, is_name_byte}
use Rattle.file_rules.specs.Spelled.{index_among}
use Rattle.file_rules.proofs.Placing.{position_cons}

-- a device's name
abbrev pub drawn_name : ℕ → List ℕ
drawn_name i = codes "d" ++ decimal i

-- the names of so many devices, from one on
abbrev pub names_from : ℕ → ℕ → List (List ℕ)
names_from a n = map drawn_name (range_with_len a n)

-- ---- which name is which

unless_so : (b : Bool) → (b ≡ true → ⊥) → b ≡ false
unless_so true h = absurd (h refl)
unless_so false h = refl

or_left : (a b : Bool) → a ≡ true → (a || b) ≡ true
or_left a b e = ap (λ c. c || b) e

or_right : (a b : Bool) → b ≡ true → (a || b) ≡ true
or_right true b e = refl
or_right false b e = e

or_neither : (a b : Bool) → a ≡ false → b ≡ false → (a || b) ≡ false
or_neither a b e f = ap (λ c. c || b) e ∙ f

own_name_is : (i j : ℕ) → i ≡ j → bytes_eq (drawn_name i) (drawn_name j) ≡ true
own_name_is i j e = (bytes_decides (drawn_name i) (drawn_name j)).1 (ap drawn_name e)

pub other_name : (i j : ℕ) → i < 1000 → j < 1000 → i ≢ j → bytes_eq (drawn_name i) (drawn_name j) ≡ false
other_name i j hi hj apart =
    unless_so (bytes_eq (drawn_name i) (drawn_name j))
    (λ e. apart (decimal_injective i j (omega arith) (omega arith) (ap (drop 1) ((bytes_decides (drawn_name i) (drawn_name j)).0 e))))

-- names are the same if their numbers are
pub name_same : (i j : ℕ) → i < 1000 → j < 1000 → bytes_eq (drawn_name i) (drawn_name j) ≡ (j == i)
name_same i j hi hj = by (j == i) refl
  where
    by : (b : Bool) → (j == i) ≡ b → bytes_eq (drawn_name i) (drawn_name j) ≡ (j == i)
    by true e = own_name_is i j (sym (eqb-true j i e)) ∙ sym e
    by false e = other_name i j hi hj (λ s. eqb-false j i e (sym s)) ∙ sym e

-- a name is one of these
pub name_among : (a n k i : ℕ) → a + k ≡ i → k < n → is_among_names (names_from a n) (drawn_name i) ≡ true
name_among a zero k i e h = absurd (omega arith)
name_among a (suc n) zero i e h = or_left (bytes_eq (drawn_name i) (drawn_name a)) (is_among_names (names_from (a + 1) n) (drawn_name i)) (own_name_is i a (omega arith))
name_among a (suc n) (suc k) i e h =
    or_right (bytes_eq (drawn_name i) (drawn_name a)) (is_among_names (names_from (a + 1) n) (drawn_name i)) (name_among (a + 1) n k i (omega arith) (omega arith))

-- and is at its index
pub name_at : (a n k i : ℕ) → a + k ≡ i → k < n → a + n ≤ 1000 → position (bytes_eq (drawn_name i)) (names_from a n) ≡ Some k
name_at a zero k i e h l = absurd (omega arith)
name_at a (suc n) zero i e h l =
    position_cons (bytes_eq (drawn_name i)) (drawn_name a) (names_from (a + 1) n)
    ∙ ap (λ b. cond b (Some 0) (option_map suc (position (bytes_eq (drawn_name i)) (names_from (a + 1) n)))) (own_name_is i a (omega arith))
name_at a (suc n) (suc k) i e h l =
    position_cons (bytes_eq (drawn_name i)) (drawn_name a) (names_from (a + 1) n)
    ∙ (ap (λ b. cond b (Some 0) (option_map suc (position (bytes_eq (drawn_name i)) (names_from (a + 1) n)))) (other_name i a (omega arith) (omega arith) (λ s. omega (arith, s, e)))
    ∙ ap (option_map suc) (name_at (a + 1) n k i (omega arith) (omega arith) (omega arith)))

pub name_placed : (n i : ℕ) → n ≤ 1000 → i < n → index_among (names_from 0 n) (drawn_name i) ≡ i
name_placed n i l h = ap (λ o. unwrap_or o 0) (name_at 0 n i i (omega arith) h (omega arith))

-- no name is there twice
pub names_differ : (before : List (List ℕ)) (a n k : ℕ) → a + n ≤ 1000 → ((i : ℕ) → a ≤ i → i < 1000 → is_among_names before (drawn_name i) ≡ false)
    → first_not_after (λ earlier name. not (is_among_names earlier name)) before k (names_from a n) ≡ None
names_differ before a zero k l h = refl
names_differ before a (suc n) k l h =
    ap (λ b. cond (not b) (first_not_after (λ earlier name. not (is_among_names earlier name)) (drawn_name a ∷ before) (suc k) (names_from (a + 1) n)) (Some k)) (h a (omega arith) (omega arith))
    ∙ names_differ (drawn_name a ∷ before) (a + 1) n (suc k) (omega arith)
    (λ i low high. or_neither (bytes_eq (drawn_name i) (drawn_name a)) (is_among_names before (drawn_name i)) (other_name i a high (omega arith) (λ s. omega (arith, s, low))) (h i (omega arith) high))

-- ---- how they are spelled

digit_byte : (b : ℕ) → 48 ≤ b → b ≤ 57 → is_name_byte b ≡ true
digit_byte b low high =
    or_left _ (b == 45) (or_left _ (b == 46) (or_left _ (b == 95) (or_right (nat_le 97 b && nat_le b 122) (nat_le 48 b && nat_le b 57) (and_from (nat_le 48 b) (nat_le b 57) (le-leb 48 b low) (le-leb b 57 high)))))

digits_pass : (ds : List ℕ) → AllDigits 10 ds → list_all is_name_byte ds ≡ true
digits_pass [] h = refl
digits_pass (d ∷ ds) h = let r = digit_from_value d h.0 in and_from (is_name_byte d) (list_all is_name_byte ds) (digit_byte d r.0 r.1) (digits_pass ds h.1)

pub name_spelled : (i : ℕ) → i < 1000 → is_name (drawn_name i) ≡ true
name_spelled i h =
    let few : length (decimal i) ≤ 3 = length-decimal-le 3 i (omega arith) (omega arith) (omega arith) in
    let long : length (drawn_name i) ≡ suc (length (decimal i)) = refl in
    and_from (nat_le 1 (length (drawn_name i)) && nat_le (length (drawn_name i)) 32) (list_all is_name_byte (drawn_name i))
    (and_from (nat_le 1 (length (drawn_name i))) (nat_le (length (drawn_name i)) 32) (le-leb 1 (length (drawn_name i)) (omega (arith, long))) (le-leb (length (drawn_name i)) 32 (omega (arith, long, few))))
    (digits_pass (decimal i) (decimal_is_IsNumeral i (omega arith)).0.1)
