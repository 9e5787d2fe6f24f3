-- Sets of numbers, a bit each: what each operation on the words makes of the flags.
use Rattle.std.proofs.Common.{◌≡◌, ℕ, zero, suc, ◌+◌, ◌-◌, ◌*◌, ◌/◌, ◌%◌, ◌^◌, ◌<◌, ◌≤◌, Bool, true, false, not, ◌||◌, eqb, List, [], ◌∷◌, length, replicate, get_or, set, refl, sym, ◌∙◌, ap, inl, inr, arith, ext_get_or, length-set, get_or-set_same, get_or-set_other, eq-eqb, ne_eqb, w64, true≢false}
use Rattle.std.proofs.lemmas.List.{length-replicate, get_or-replicate, get_or_past}
use Rattle.std.proofs.lemmas.List.FromFn.{length-map-range_with_len, get_or-map-range_with_len}
use Rattle.std.proofs.lemmas.Bool.{cases_eq, cases_lt, not-false, eqb-true}
use Rattle.std.proofs.lemmas.Nat.{one_shl, pow_pos, pow_below, and_le_l, le_or_l, or_lt}
use Rattle.std.proofs.lemmas.Nat.Bits.{bit_at_and, bit_at_or, bit_at_not, bit_at-lt, bit_at_set_same, bit_at_set_other, bit_at_clear_same, bit_at_clear_other, bit_at-pow_same, bit_at-pow_other, bit_at-trailing_zeros, bit_at-zero, and_pow, ones_shl, bit_at_mask_inside, bit_at_mask_below, same_from_bits_below}
use Rattle.std.specs.Prelude.{min, max, bit_and, bit_or, Option, None, Some}
use Rattle.std.specs.Int.{bit_at, bit_not, trailing_zeros}
use Rattle.std.specs.Option.{MatchOption}
use Rattle.wait_queues.specs.NumberSets.{bit_of, bits_of, AreMarked, is_in, union, AreNone, IsNextNumber}
use mathlib.Core.Logic.{◌≢◌}

-- ---- the flags

pub length-bits_of : (words : List ℕ) → length (bits_of words) ≡ 64 * length words
unfolding bits_of
length-bits_of words = length-map-range_with_len (bit_of words) 0 (64 * length words)

-- a number of a row without words is in no set
pub no_word : (words : List ℕ) (k : ℕ) → get_or words (k / 64) 0 ≡ 0 → bit_of words k ≡ false
no_word words k none = ap (λ x. eqb (bit_at x (k % 64)) 1) none ∙ ap (λ x. eqb x 1) (bit_at-zero (k % 64))

pub is_in-bits_of : (words : List ℕ) (k : ℕ) → is_in (bits_of words) k ≡ bit_of words k
unfolding bits_of
is_in-bits_of words k =
    elim (cases_lt k (64 * length words)) [
      | inl within ↦ get_or-map-range_with_len (bit_of words) 0 (64 * length words) k k false within (omega arith)
      | inr past ↦
          get_or_past (bits_of words) k false (omega (arith, length-bits_of words))
          ∙ sym (no_word words k (get_or_past words (k / 64) 0 (omega arith)))
    ]

pub bits_of-replicate : (n : ℕ) → bits_of (replicate n 0) ≡ replicate (64 * n) false
bits_of-replicate n =
    let zeros : List ℕ = replicate n 0 in
    let long : length zeros ≡ n = length-replicate n 0 in
    ext_get_or false _ _
    (length-bits_of zeros ∙ ap (λ x. 64 * x) long ∙ sym (length-replicate (64 * n) false))
    (λ k h.
    let within : k < 64 * n = omega (arith, length-bits_of zeros) in
    is_in-bits_of zeros k
    ∙ no_word zeros k (get_or-replicate n (k / 64) 0 0 (omega arith))
    ∙ sym (get_or-replicate (64 * n) k false false within))

-- one bit of a word has become b
bits_of-set : (words : List ℕ) (n v : ℕ) (b : Bool) → n / 64 < length words → eqb (bit_at v (n % 64)) 1 ≡ b
    → ((j : ℕ) → j < 64 → j ≢ n % 64 → bit_at v j ≡ bit_at (get_or words (n / 64) 0) j)
    → bits_of (set words (n / 64) v) ≡ set (bits_of words) n b
bits_of-set words n v b row same others =
    let changed : List ℕ = set words (n / 64) v in
    let within : n < length (bits_of words) = omega (arith, length-bits_of words) in
    ext_get_or false _ _
    (length-bits_of changed ∙ ap (λ x. 64 * x) (length-set words (n / 64) v) ∙ sym (length-bits_of words) ∙ sym (length-set (bits_of words) n b))
    (λ k _.
    is_in-bits_of changed k
    ∙ (elim (cases_eq k n) as (λ _. bit_of changed k ≡ get_or (set (bits_of words) n b) k false) [
      | inl here ↦
          rw here
          (ap (λ x. eqb (bit_at x (n % 64)) 1) (get_or-set_same words (n / 64) v 0 row)
          ∙ same
          ∙ sym (get_or-set_same (bits_of words) n b false within))
      | inr other ↦
          (elim (cases_eq (k / 64) (n / 64)) as (λ _. bit_of changed k ≡ bit_of words k) [
            | inl beside ↦
                ap (λ x. eqb (bit_at (get_or changed x 0) (k % 64)) 1) beside
                ∙ ap (λ x. eqb (bit_at x (k % 64)) 1) (get_or-set_same words (n / 64) v 0 row)
                ∙ ap (λ x. eqb x 1) (others (k % 64) (omega arith) (omega arith))
                ∙ ap (λ x. eqb (bit_at (get_or words x 0) (k % 64)) 1) (sym beside)
            | inr apart ↦ ap (λ x. eqb (bit_at x (k % 64)) 1) (get_or-set_other words (n / 64) (k / 64) v 0 apart)
          ])
          ∙ sym (is_in-bits_of words k)
          ∙ sym (get_or-set_other (bits_of words) n k b false other)
    ]))

pub bits_of-insert : (words : List ℕ) (n : ℕ) → n / 64 < length words
    → bits_of (set words (n / 64) (bit_or (get_or words (n / 64) 0) (1 * 2 ^ (n % 64) % 2 ^ 64))) ≡ set (bits_of words) n true
bits_of-insert words n row =
    let word : ℕ = get_or words (n / 64) 0 in
    let low : n % 64 < 64 = omega arith in
    bits_of-set words n _ true row (eq-eqb _ 1 (bit_at_set_same w64 word (n % 64) low)) (λ j _ other. bit_at_set_other w64 word (n % 64) low j other)

pub bits_of-remove : (words : List ℕ) (n : ℕ) → n / 64 < length words
    → bits_of (set words (n / 64) (bit_and (get_or words (n / 64) 0) (bit_not w64 (1 * 2 ^ (n % 64) % 2 ^ 64)))) ≡ set (bits_of words) n false
bits_of-remove words n row =
    let word : ℕ = get_or words (n / 64) 0 in
    let low : n % 64 < 64 = omega arith in
    bits_of-set words n _ false row (ap (λ x. eqb x 1) (bit_at_clear_same w64 word (n % 64) low)) (λ j in_word other. bit_at_clear_other w64 word (n % 64) low j in_word other)

-- ---- the words that are marked

-- a word with a bit is not 0
pub some_bit : (v j : ℕ) → bit_at v j ≡ 1 → 0 < v
some_bit v j one =
    elim (cases_eq v 0) [
      | inl none ↦ let bit : bit_at v j ≡ 0 = ap (λ x. bit_at x j) none ∙ bit_at-zero j in absurd (omega arith)
      | inr some ↦ omega arith
    ]

all_zero : (n k : ℕ) → get_or {A = ℕ} (replicate n 0) k 0 ≡ 0
all_zero n k =
    elim (cases_lt k n) [
      | inl within ↦ get_or-replicate n k 0 0 within
      | inr past ↦ get_or_past (replicate n 0) k 0 (omega (arith, length-replicate {A = ℕ} n 0))
    ]

pub marked-new : (n : ℕ) → n < 64 → AreMarked (replicate n 0) 0
marked-new n few = record {
  few = omega (arith, length-replicate {A = ℕ} n 0);
  fits = λ k. omega (arith, all_zero n k);
  marks = λ k _. ap (λ x. eqb x 1) (bit_at-zero k) ∙ sym (ap (λ x. not (eqb x 0)) (all_zero n k));
}

module _ (words : List ℕ) (full : ℕ) (m : AreMarked words full) where
  row_in : (at : ℕ) → at < length words → at < 64
  row_in at row = omega (arith, m.few)

  fits_set : (at v : ℕ) → v < 2 ^ 64 → at < length words → (k : ℕ) → get_or (set words at v) k 0 < 2 ^ 64
  fits_set at v fits row k =
      elim (cases_eq k at) [
        | inl here ↦ rw here (omega (arith, get_or-set_same words at v 0 row))
        | inr other ↦ omega (arith, get_or-set_other words at k v 0 other, m.fits k)
      ]

  pub marked-some : (at v : ℕ) → at < length words → v < 2 ^ 64 → 0 < v → AreMarked (set words at v) (bit_or full (1 * 2 ^ at % 2 ^ 64))
  marked-some at v row fits some = record {
    few = omega (arith, length-set words at v, m.few);
    fits = fits_set at v fits row;
    marks = λ k low. elim (cases_eq k at) [
      | inl here ↦
          rw here
          (eq-eqb _ 1 (bit_at_set_same w64 full at (row_in at row))
          ∙ sym (ap (λ x. not (eqb x 0)) (get_or-set_same words at v 0 row) ∙ ap not (ne_eqb v 0 (omega arith))))
      | inr other ↦
          ap (λ x. eqb x 1) (bit_at_set_other w64 full at (row_in at row) k other)
          ∙ m.marks k low
          ∙ sym (ap (λ x. not (eqb x 0)) (get_or-set_other words at k v 0 other))
    ];
  }

  pub marked-none : (at v : ℕ) → at < length words → v ≡ 0 → AreMarked (set words at v) (bit_and full (bit_not w64 (1 * 2 ^ at % 2 ^ 64)))
  marked-none at v row none = record {
    few = omega (arith, length-set words at v, m.few);
    fits = fits_set at v (omega arith) row;
    marks = λ k low. elim (cases_eq k at) [
      | inl here ↦
          rw here
          (ap (λ x. eqb x 1) (bit_at_clear_same w64 full at (row_in at row))
          ∙ sym (ap (λ x. not (eqb x 0)) (get_or-set_same words at v 0 row ∙ none)))
      | inr other ↦
          ap (λ x. eqb x 1) (bit_at_clear_other w64 full at (row_in at row) k low other)
          ∙ m.marks k low
          ∙ sym (ap (λ x. not (eqb x 0)) (get_or-set_other words at k v 0 other))
    ];
  }

  pub marked-same : (at v : ℕ) → at < length words → v < 2 ^ 64 → 0 < get_or words at 0 → 0 < v → AreMarked (set words at v) full
  marked-same at v row fits before after = record {
    few = omega (arith, length-set words at v, m.few);
    fits = fits_set at v fits row;
    marks = λ k low. m.marks k low ∙ (elim (cases_eq k at) as (λ _. not (eqb (get_or words k 0) 0) ≡ not (eqb (get_or (set words at v) k 0) 0)) [
      | inl here ↦
          rw here
          (ap not (ne_eqb (get_or words at 0) 0 (omega arith))
          ∙ sym (ap (λ x. not (eqb x 0)) (get_or-set_same words at v 0 row) ∙ ap not (ne_eqb v 0 (omega arith))))
      | inr other ↦ sym (ap (λ x. not (eqb x 0)) (get_or-set_other words at k v 0 other))
    ]);
  }

  pub empty_word : (row : ℕ) → (row < 64 → bit_at full row ≡ 0) → get_or words row 0 ≡ 0
  empty_word row none =
      elim (cases_lt row 64) [
        | inl low ↦ eqb-true _ _ (not-false _ (sym (m.marks row low) ∙ ap (λ x. eqb x 1) (none low)))
        | inr past ↦ get_or_past words row 0 (omega (arith, m.few))
      ]

  pub full_word : (row : ℕ) → row < 64 → bit_at full row ≡ 1 → 0 < get_or words row 0
  full_word row low one =
      elim (cases_eq (get_or words row 0) 0) [
        | inl none ↦ absurd (true≢false (sym (eq-eqb _ 1 one) ∙ m.marks row low ∙ ap (λ x. not (eqb x 0)) none))
        | inr some ↦ omega arith
      ]

  -- ---- whether there is none, and whether there is only one

  pub all_empty : full ≡ 0 → (k : ℕ) → is_in (bits_of words) k ≡ false
  all_empty none k =
      is_in-bits_of words k
      ∙ no_word words k (empty_word (k / 64) (λ _. ap (λ x. bit_at x (k / 64)) none ∙ bit_at-zero (k / 64)))

  pub is_empty : full < 2 ^ 64 → ((k : ℕ) → is_in (bits_of words) k ≡ false) → full ≡ 0
  is_empty full_fits none =
      elim (cases_eq full 0) [
        | inl empty ↦ empty
        | inr some ↦
            let at : ℕ = trailing_zeros w64 full in
            let row = bit_at-trailing_zeros w64 full (omega arith) full_fits in
            let word : ℕ = get_or words at 0 in
            let low : ℕ = trailing_zeros w64 word in
            let bit = bit_at-trailing_zeros w64 word (full_word at row.0 row.1) (m.fits at) in
            let n : ℕ = 64 * at + low in
            let in_row : n / 64 ≡ at = omega (arith, bit.0) in
            let in_word : n % 64 ≡ low = omega (arith, bit.0) in
            absurd
            (true≢false
            (sym (eq-eqb (bit_at word low) 1 bit.1)
            ∙ sym (ap (λ x. eqb (bit_at (get_or words x 0) (n % 64)) 1) in_row ∙ ap (λ x. eqb (bit_at word x) 1) in_word)
            ∙ sym (is_in-bits_of words n)
            ∙ none n))
      ]

-- ---- one number

-- the test `word & bit != 0`
pub has_bit : (word j : ℕ) → j < 64 → not (eqb (bit_and word (1 * 2 ^ j % 2 ^ 64)) 0) ≡ eqb (bit_at word j) 1
has_bit word j low =
    let bit : ℕ = bit_at word j in
    let small : bit < 2 = bit_at-lt word j in
    let masked : bit_and word (1 * 2 ^ j % 2 ^ 64) ≡ bit * 2 ^ j = ap (bit_and word) (one_shl j 64 low) ∙ and_pow word j in
    elim (cases_eq bit 1) [
      | inl one ↦
          let some : 0 < bit_and word (1 * 2 ^ j % 2 ^ 64) = rw (masked, one) (omega (arith, pow_pos j)) in
          ap not (ne_eqb _ 0 (omega arith)) ∙ sym (eq-eqb bit 1 one)
      | inr other ↦
          let none : bit ≡ 0 = omega arith in
          ap not (eq-eqb _ 0 (rw (masked, none) (omega arith))) ∙ sym (ne_eqb bit 1 other)
    ]

-- a word without a bit is 0
no_bits : (word : ℕ) → word < 2 ^ 64 → ((j : ℕ) → j < 64 → bit_at word j ≡ 0) → word ≡ 0
no_bits word fits none =
    elim (cases_eq word 0) [
      | inl zero_is ↦ zero_is
      | inr some ↦ let low = bit_at-trailing_zeros w64 word (omega arith) fits in absurd (omega (arith, none (trailing_zeros w64 word) low.0, low.1))
    ]

-- a bit whose test fails
bit_is : (bit : ℕ) → bit < 2 → eqb bit 1 ≡ false → bit ≡ 0
bit_is bit small unset = elim (cases_eq bit 1) [ inl one ↦ absurd (true≢false (sym (eq-eqb bit 1 one) ∙ unset)) | inr other ↦ omega arith ]

module _ (words : List ℕ) (full n : ℕ) (m : AreMarked words full) where
  abbrev at : ℕ
  at = n / 64

  abbrev low : ℕ
  low = n % 64

  abbrev IsOnly : Type 0
  IsOnly = (k : ℕ) → is_in (bits_of words) k ≡ eqb k n

  -- the bit of each place of a row
  at_place : IsOnly → (row j : ℕ) → j < 64 → eqb (bit_at (get_or words row 0) j) 1 ≡ eqb (64 * row + j) n
  at_place only row j in_word =
      let k : ℕ = 64 * row + j in
      let in_row : k / 64 ≡ row = omega arith in
      let place : k % 64 ≡ j = omega arith in
      sym (ap (λ x. eqb (bit_at (get_or words x 0) (k % 64)) 1) in_row ∙ ap (λ x. eqb (bit_at (get_or words row 0) x) 1) place)
      ∙ sym (is_in-bits_of words k)
      ∙ only k

  other_place : IsOnly → (row j : ℕ) → j < 64 → 64 * row + j ≢ n → bit_at (get_or words row 0) j ≡ 0
  other_place only row j in_word other =
      bit_is _ (bit_at-lt (get_or words row 0) j) (at_place only row j in_word ∙ ne_eqb (64 * row + j) n other)

  its_place : IsOnly → bit_at (get_or words at 0) low ≡ 1
  its_place only = eqb-true _ _ (at_place only at low (omega arith) ∙ eq-eqb (64 * at + low) n (omega arith))

  pub only_word : IsOnly → get_or words at 0 ≡ 2 ^ low
  only_word only =
      same_from_bits_below 64 _ _ (m.fits at) (pow_below low 64 (omega arith))
      (λ j in_word. elim (cases_eq j low) [
        | inl here ↦ rw here (its_place only ∙ sym (bit_at-pow_same low))
        | inr other ↦ other_place only at j in_word (omega arith) ∙ sym (bit_at-pow_other low j other)
      ])

  pub only_in : IsOnly → at < 64
  only_in only =
      elim (cases_lt at 64) [
        | inl within ↦ within
        | inr past ↦
            absurd (omega (arith, some_bit _ low (its_place only), get_or_past words at 0 (omega (arith, m.few))))
      ]

  pub only_full : full < 2 ^ 64 → IsOnly → full ≡ 2 ^ at
  only_full full_fits only =
      same_from_bits_below 64 _ _ full_fits (pow_below at 64 (only_in only))
      (λ row in_full. elim (cases_eq row at) [
        | inl here ↦
            rw here
            (eqb-true _ _ (m.marks at (only_in only) ∙ ap not (ne_eqb (get_or words at 0) 0 (omega (arith, some_bit _ low (its_place only)))))
            ∙ sym (bit_at-pow_same at))
        | inr other ↦
            let none : get_or words row 0 ≡ 0 = no_bits _ (m.fits row) (λ j in_word. other_place only row j in_word (omega arith)) in
            bit_is _ (bit_at-lt full row) (m.marks row in_full ∙ ap (λ x. not (eqb x 0)) none)
            ∙ sym (bit_at-pow_other at row other)
      ])

  pub is_only : full ≡ 2 ^ at → get_or words at 0 ≡ 2 ^ low → IsOnly
  is_only full_is word_is k =
      is_in-bits_of words k
      ∙ (elim (cases_eq (k / 64) at) as (λ _. bit_of words k ≡ eqb k n) [
        | inl beside ↦
            ap (λ x. eqb (bit_at (get_or words x 0) (k % 64)) 1) beside
            ∙ ap (λ x. eqb (bit_at x (k % 64)) 1) word_is
            ∙ (elim (cases_eq (k % 64) low) as (λ _. eqb (bit_at (2 ^ low) (k % 64)) 1 ≡ eqb k n) [
              | inl here ↦ ap (λ x. eqb (bit_at (2 ^ low) x) 1) here ∙ eq-eqb _ 1 (bit_at-pow_same low) ∙ sym (eq-eqb k n (omega arith))
              | inr other ↦ ap (λ x. eqb x 1) (bit_at-pow_other low (k % 64) other) ∙ sym (ne_eqb k n (omega arith))
            ])
        | inr apart ↦
            no_word words k (empty_word words full m (k / 64) (λ _. ap (λ x. bit_at x (k / 64)) full_is ∙ bit_at-pow_other at (k / 64) apart))
            ∙ sym (ne_eqb k n (omega arith))
      ])

-- ---- two sets

length-union : (xs ys : List Bool) → length (union xs ys) ≡ length xs
unfolding union
length-union [] ys = refl
length-union (x ∷ xs) [] = refl
length-union (x ∷ xs) (y ∷ ys) = ap suc (length-union xs ys)

or_none : (b : Bool) → b ≡ (b || false)
or_none true = refl
or_none false = refl

is_in-union : (xs ys : List Bool) (k : ℕ) → k < length xs → is_in (union xs ys) k ≡ (is_in xs k || is_in ys k)
unfolding union
is_in-union [] ys k within = absurd (omega arith)
is_in-union (x ∷ xs) [] k within = or_none (is_in (x ∷ xs) k) ∙ sym (ap (λ b. is_in (x ∷ xs) k || b) (get_or_past {X = Bool} [] k false (omega arith)))
is_in-union (x ∷ xs) (y ∷ ys) zero within = refl
is_in-union (x ∷ xs) (y ∷ ys) (suc k) within = is_in-union xs ys k (omega arith)

either_bit : (a b : ℕ) → a < 2 → b < 2 → eqb (max a b) 1 ≡ (eqb a 1 || eqb b 1)
either_bit zero zero p q = refl
either_bit zero (suc zero) p q = refl
either_bit (suc zero) zero p q = refl
either_bit (suc zero) (suc zero) p q = refl
either_bit (suc (suc a)) b p q = absurd (omega arith)
either_bit a (suc (suc b)) p q = absurd (omega arith)

either_word : (a b : ℕ) → not (eqb (bit_or a b) 0) ≡ (not (eqb a 0) || not (eqb b 0))
either_word zero b = refl
either_word (suc a) b =
    ap not (ne_eqb _ 0 (omega (arith, le_or_l (suc a) b))) ∙ sym (ap (λ x. not x || not (eqb b 0)) (ne_eqb (suc a) 0 (omega arith)))

module _ (words others changed : List ℕ) (long : length changed ≡ length words)
    (both : (k : ℕ) → k < length words → get_or changed k 0 ≡ bit_or (get_or words k 0) (get_or others k 0)) where
  pub bits_of-union : bits_of changed ≡ union (bits_of words) (bits_of others)
  bits_of-union =
      ext_get_or false _ _
      (length-bits_of changed ∙ ap (λ x. 64 * x) long ∙ sym (length-bits_of words) ∙ sym (length-union (bits_of words) (bits_of others)))
      (λ k h.
      let within : k < length (bits_of words) = omega (arith, length-bits_of changed, length-bits_of words) in
      let word : ℕ = get_or words (k / 64) 0 in
      let other : ℕ = get_or others (k / 64) 0 in
      is_in-bits_of changed k
      ∙ ap (λ x. eqb (bit_at x (k % 64)) 1) (both (k / 64) (omega (arith, length-bits_of words)))
      ∙ ap (λ x. eqb x 1) (bit_at_or word other (k % 64))
      ∙ either_bit _ _ (bit_at-lt word (k % 64)) (bit_at-lt other (k % 64))
      ∙ sym (is_in-union (bits_of words) (bits_of others) k within ∙ (λ i. is_in-bits_of words k i || is_in-bits_of others k i)))

  module _ (full other_full : ℕ) (m : AreMarked words full) (o : AreMarked others other_full) where
    abbrev mask : ℕ
    mask = (2 ^ 64 - 1) * 2 ^ length words % 2 ^ 64

    mask_is : mask ≡ 2 ^ 64 - 2 ^ length words
    mask_is = ones_shl 64 (length words) (omega (arith, m.few))

    kept_bit : (k : ℕ) → k < 64 → bit_at (bit_and other_full (bit_not w64 mask)) k ≡ min (bit_at other_full k) (1 - bit_at (2 ^ 64 - 2 ^ length words) k)
    kept_bit k low =
        ap (λ x. bit_at (bit_and other_full (bit_not w64 x)) k) mask_is
        ∙ bit_at_and other_full _ k
        ∙ ap (min (bit_at other_full k)) (bit_at_not w64 (2 ^ 64 - 2 ^ length words) k (omega (arith, pow_pos (length words))) low)

    both_bits : (k : ℕ) → k < 64 → bit_at (bit_or full (bit_and other_full (bit_not w64 mask))) k ≡ max (bit_at full k) (min (bit_at other_full k) (1 - bit_at (2 ^ 64 - 2 ^ length words) k))
    both_bits k low = bit_at_or full _ k ∙ ap (max (bit_at full k)) (kept_bit k low)

    marks : (k : ℕ) → k < 64 → eqb (bit_at (bit_or full (bit_and other_full (bit_not w64 mask))) k) 1 ≡ not (eqb (get_or changed k 0) 0)
    marks k low =
        let small : bit_at other_full k < 2 = bit_at-lt other_full k in
        elim (cases_lt k (length words)) [
          | inl within ↦
              let bit : max (bit_at full k) (min (bit_at other_full k) (1 - bit_at (2 ^ 64 - 2 ^ length words) k)) ≡ max (bit_at full k) (bit_at other_full k) =
              omega (arith, bit_at_mask_below (length words) 64 k within) in
              ap (λ x. eqb x 1) (both_bits k low ∙ bit)
              ∙ either_bit _ _ (bit_at-lt full k) small
              ∙ (λ i. m.marks k low i || o.marks k low i)
              ∙ sym (either_word (get_or words k 0) (get_or others k 0))
              ∙ sym (ap (λ x. not (eqb x 0)) (both k within))
          | inr past ↦
              let bit : max (bit_at full k) (min (bit_at other_full k) (1 - bit_at (2 ^ 64 - 2 ^ length words) k)) ≡ bit_at full k =
              omega (arith, bit_at_mask_inside (length words) 64 k past low) in
              ap (λ x. eqb x 1) (both_bits k low ∙ bit)
              ∙ m.marks k low
              ∙ ap (λ x. not (eqb x 0)) (get_or_past words k 0 past ∙ sym (get_or_past changed k 0 (omega arith)))
        ]

    fits : (k : ℕ) → get_or changed k 0 < 2 ^ 64
    fits k =
        elim (cases_lt k (length words)) [
          | inl within ↦ omega (arith, both k within, or_lt 64 _ _ (m.fits k) (o.fits k))
          | inr past ↦ omega (arith, get_or_past changed k 0 (omega arith))
        ]

    pub marked-union : AreMarked changed (bit_or full (bit_and other_full (bit_not w64 mask)))
    marked-union = record { few = omega (arith, m.few); fits = fits; marks = marks }

-- all numbers out
pub bits_of-none : (words : List ℕ) → bits_of (replicate (length words) 0) ≡ replicate (length (bits_of words)) false
bits_of-none words = bits_of-replicate (length words) ∙ ap (λ n. replicate n false) (sym (length-bits_of words))

-- an empty set is as it is
pub none_are : (flags : List Bool) → ((k : ℕ) → is_in flags k ≡ false) → flags ≡ replicate (length flags) false
none_are flags none =
    ext_get_or false _ _ (sym (length-replicate (length flags) false)) (λ k h. none k ∙ sym (get_or-replicate (length flags) k false false h))

pub union-none : (xs ys : List Bool) → ((k : ℕ) → is_in ys k ≡ false) → xs ≡ union xs ys
union-none xs ys none =
    ext_get_or false _ _ (sym (length-union xs ys))
    (λ k h. or_none (is_in xs k) ∙ sym (is_in-union xs ys k h ∙ ap (λ b. is_in xs k || b) (none k)))

-- ---- the next one

-- what is found is that number, if it is below the other
abbrev pub IsFound : Option ℕ → ℕ → ℕ → Type 0
IsFound found many n = MatchOption found (many ≤ n) (λ r. (r ≡ n) × (n < many))

pub first_found : (flags : List Bool) (from many n : ℕ) (found : Option ℕ) → from ≤ n → is_in flags n ≡ true → AreNone flags from n
    → IsFound found many n → IsNextNumber flags from many found
first_found flags from many n None ahead it none past = λ k from_on below. none k from_on (omega arith)
first_found flags from many n (Some r) ahead it none is = rw is.0 (ahead, is.1, it, none)

-- the bits of a word from one place on
masked_low : (n at j : ℕ) → at < 64 → j < at → bit_at (bit_and n ((2 ^ 64 - 1) * 2 ^ at % 2 ^ 64)) j ≡ 0
masked_low n at j within below =
    ap (λ x. bit_at (bit_and n x) j) (ones_shl 64 at (omega arith)) ∙ omega (arith, bit_at_and n (2 ^ 64 - 2 ^ at) j, bit_at_mask_below at 64 j below)

masked_high : (n at j : ℕ) → at < 64 → at ≤ j → j < 64 → bit_at (bit_and n ((2 ^ 64 - 1) * 2 ^ at % 2 ^ 64)) j ≡ bit_at n j
masked_high n at j within from_on low =
    ap (λ x. bit_at (bit_and n x) j) (ones_shl 64 at (omega arith)) ∙ omega (arith, bit_at_and n (2 ^ 64 - 2 ^ at) j, bit_at_mask_inside at 64 j from_on low, bit_at-lt n j)

module _ (words : List ℕ) (full : ℕ) (m : AreMarked words full) (from many word : ℕ) (read : word ≡ get_or words (from / 64) 0) where
  -- the numbers of the first word that are left
  abbrev left : ℕ
  left = bit_and word ((2 ^ 64 - 1) * 2 ^ (from % 64) % 2 ^ 64)

  left_bit : (k : ℕ) → from ≤ k → k / 64 ≡ from / 64 → bit_at left (k % 64) ≡ bit_at (get_or words (k / 64) 0) (k % 64)
  left_bit k from_on beside =
      masked_high word (from % 64) (k % 64) (omega arith) (omega arith) (omega arith)
      ∙ ap (λ x. bit_at x (k % 64)) read
      ∙ ap (λ x. bit_at (get_or words x 0) (k % 64)) (sym beside)

  not_in : (k : ℕ) → bit_at (get_or words (k / 64) 0) (k % 64) ≡ 0 → is_in (bits_of words) k ≡ false
  not_in k none = is_in-bits_of words k ∙ ap (λ x. eqb x 1) none

  lowest_in : (row t : ℕ) → t < 64 → bit_at (get_or words row 0) t ≡ 1 → is_in (bits_of words) (row * 64 + t) ≡ true
  lowest_in row t low one =
      let k : ℕ = row * 64 + t in
      let in_row : k / 64 ≡ row = omega arith in
      let place_is : k % 64 ≡ t = omega arith in
      is_in-bits_of words k
      ∙ ap (λ x. eqb (bit_at (get_or words x 0) (k % 64)) 1) in_row
      ∙ ap (λ x. eqb (bit_at (get_or words row 0) x) 1) place_is
      ∙ eq-eqb _ 1 one

  pub next_here : (found : Option ℕ) → 0 < left → IsFound found many (from / 64 * 64 + trailing_zeros w64 left) → IsNextNumber (bits_of words) from many found
  next_here found some is =
      let t : ℕ = trailing_zeros w64 left in
      let left_fits : left < 2 ^ 64 = omega (arith, and_le_l word ((2 ^ 64 - 1) * 2 ^ (from % 64) % 2 ^ 64), m.fits (from / 64)) in
      let low = bit_at-trailing_zeros w64 left some left_fits in
      let ahead : from % 64 ≤ t = elim (cases_lt t (from % 64)) [
        | inl before ↦ absurd (omega (arith, low.1, masked_low word (from % 64) t (omega arith) before))
        | inr from_on ↦ from_on
      ] in
      first_found (bits_of words) from many (from / 64 * 64 + t) found (omega arith)
      (lowest_in (from / 64) t low.0 (sym (ap (λ x. bit_at x t) read) ∙ sym (masked_high word (from % 64) t (omega arith) ahead low.0) ∙ low.1))
      (λ k from_on below.
      let beside : k / 64 ≡ from / 64 = omega (arith, low.0) in
      not_in k (sym (left_bit k from_on beside) ∙ low.2 (k % 64) (omega (arith, low.0))))
      is

  module _ (none : left ≡ 0) (place : ℕ) (least : place ≡ min (from / 64 + 1) 63) where
    -- the words after the first that have a number
    abbrev later : ℕ
    later = bit_and full ((2 ^ 64 - 1) * 2 ^ place % 2 ^ 64)

    none_here : (k : ℕ) → from ≤ k → k / 64 ≡ from / 64 → is_in (bits_of words) k ≡ false
    none_here k from_on beside = not_in k (sym (left_bit k from_on beside) ∙ ap (λ x. bit_at x (k % 64)) none ∙ bit_at-zero (k % 64))

    none_later : (k : ℕ) → from / 64 < k / 64 → (k / 64 < 64 → bit_at later (k / 64) ≡ 0) → is_in (bits_of words) k ≡ false
    none_later k after nothing =
        is_in-bits_of words k
        ∙ no_word words k
        (empty_word words full m (k / 64) (λ low. sym (masked_high full place (k / 64) (omega arith) (omega arith) low) ∙ nothing low))

    pub next_none : later ≡ 0 → AreNone (bits_of words) from many
    next_none nothing k from_on _ =
        elim (cases_eq (k / 64) (from / 64)) [
          | inl beside ↦ none_here k from_on beside
          | inr apart ↦ none_later k (omega arith) (λ _. ap (λ x. bit_at x (k / 64)) nothing ∙ bit_at-zero (k / 64))
        ]

    module _ (full_fits : full < 2 ^ 64) (some : 0 < later) where
      -- the first of these words
      abbrev row : ℕ
      row = trailing_zeros w64 later

      first_row : (row < 64) × (bit_at later row ≡ 1) × ((i : ℕ) → i < row → bit_at later i ≡ 0)
      first_row = bit_at-trailing_zeros w64 later some (omega (arith, and_le_l full ((2 ^ 64 - 1) * 2 ^ place % 2 ^ 64)))

      not_before : place ≤ row
      not_before =
          elim (cases_lt row place) [
            | inl before ↦ absurd (omega (arith, first_row.1, masked_low full place row (omega arith) before))
            | inr from_on ↦ from_on
          ]

      pub some_there : 0 < get_or words row 0
      some_there = full_word words full m row first_row.0 (sym (masked_high full place row (omega arith) not_before first_row.0) ∙ first_row.1)

      after : from / 64 < row
      after =
          elim (cases_lt row (length words)) [
            | inl within ↦ omega (arith, m.few, not_before)
            | inr past ↦ absurd (omega (arith, some_there, get_or_past words row 0 past))
          ]

      pub next_later : (found : Option ℕ) (there : ℕ) → there ≡ get_or words row 0 → IsFound found many (row * 64 + trailing_zeros w64 there) → IsNextNumber (bits_of words) from many found
      next_later found there read_there is =
          let t : ℕ = trailing_zeros w64 there in
          let low = bit_at-trailing_zeros w64 there (omega (arith, some_there)) (omega (arith, m.fits row)) in
          first_found (bits_of words) from many (row * 64 + t) found (omega (arith, after))
          (lowest_in row t low.0 (sym (ap (λ x. bit_at x t) read_there) ∙ low.1))
          (λ k from_on below. elim (cases_eq (k / 64) (from / 64)) [
            | inl beside ↦ none_here k from_on beside
            | inr apart ↦ elim (cases_eq (k / 64) row) [
              | inl in_row ↦
                  not_in k
                  (ap (λ x. bit_at (get_or words x 0) (k % 64)) in_row
                  ∙ sym (ap (λ x. bit_at x (k % 64)) read_there)
                  ∙ low.2 (k % 64) (omega (arith, low.0)))
              | inr before ↦ none_later k (omega arith) (λ _. first_row.2 (k / 64) (omega (arith, low.0)))
            ]
          ])
          is
