-- A set of numbers as flags: for each number that there is room for, whether it is in the set.
use Rattle.std.specs.Prelude.{◌≡◌, ℕ, ◌*◌, ◌/◌, ◌%◌, ◌^◌, ◌<◌, ◌≤◌, Bool, true, false, not, ◌||◌, ◌==◌, List, [], ◌∷◌, length, map, slice_index, slice_index_or, Option}
use Rattle.std.specs.Int.{bit_at}
use Rattle.std.specs.List.{range_with_len}
use Rattle.std.specs.Option.{MatchOption}

-- bit n of the words, counted from the lowest bit of the first
abbrev pub bit_of : List ℕ → ℕ → Bool
bit_of words n = bit_at (slice_index words (n / 64)) (n % 64) == 1

-- all bits of the words
unfoldable pub bits_of : List ℕ → List Bool
bits_of words = map (bit_of words) (range_with_len 0 (64 * length words))

-- what holds of a set's fields: they are words of 64 bits, and bit k of the number is 1 exactly if word k is not 0
pub record AreMarked (words : List ℕ) (full : ℕ) : Type 0 where
  pub few : length words < 64
  pub fits : (k : ℕ) → slice_index words k < 2 ^ 64
  pub marks : (k : ℕ) → k < 64 → (bit_at full k == 1) ≡ not (slice_index words k == 0)

-- whether that number is in the set
abbrev pub is_in : List Bool → ℕ → Bool
is_in flags n = slice_index_or flags n false

-- the numbers of both sets, as far as the first has room
unfoldable pub union : List Bool → List Bool → List Bool
union [] ys = []
union (x ∷ xs) [] = x ∷ xs
union (x ∷ xs) (y ∷ ys) = (x || y) ∷ union xs ys

-- no number from the first on is in the set, up to the second
abbrev pub AreNone : List Bool → ℕ → ℕ → Type 0
AreNone flags from end = (k : ℕ) → from ≤ k → k < end → is_in flags k ≡ false

-- the first number of the set from that one on and below the other, or that there is none
abbrev pub IsNextNumber : List Bool → ℕ → ℕ → Option ℕ → Type 0
IsNextNumber flags from many found =
    MatchOption found (AreNone flags from many)
    (λ n. (from ≤ n) × (n < many) × (is_in flags n ≡ true) × AreNone flags from n)
