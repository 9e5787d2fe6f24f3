-- A tree of moments in one list: node k is above the nodes 2k and 2k + 1.
use Rattle.std.specs.Prelude.{◌≡◌, ◌≢◌, ◌<◌, ◌+◌, ◌*◌, ℕ, zero, suc, List, length, min, Option, Some, None, slice_index_or}

-- the moment of a thing that has none, and the last one that a thing may have (own)
abbrev pub never : ℕ
never = 18446744073709551615

abbrev pub last : ℕ
last = 18446744073709551614

-- the moment at which a sleep up to that one ends, if there is one (own)
abbrev pub moment_of : Option ℕ → ℕ
moment_of None = never
moment_of (Some until) = min until last

-- the least of the first n of these moments (own)
abbrev pub least_among : List ℕ → ℕ → ℕ
least_among moments zero = never
least_among moments (suc n) = min (slice_index_or moments n never) (least_among moments n)

-- the least of all (own)
abbrev pub least_of : List ℕ → ℕ
least_of moments = least_among moments (length moments)

-- a node has the lesser moment of the two below it (own)
abbrev pub IsLeastBelow : List ℕ → ℕ → Type 0
IsLeastBelow nodes k = slice_index_or nodes k never ≡ min (slice_index_or nodes (2 * k) never) (slice_index_or nodes (2 * k + 1) never)

-- so has each above the last n, but one (own)
abbrev pub AreJoinedBut : ℕ → ℕ → List ℕ → Type 0
AreJoinedBut n but nodes = (k : ℕ) → 0 < k → k < n → k ≢ but → IsLeastBelow nodes k

-- so has each above the last n (own)
abbrev pub AreLeastBelow : ℕ → List ℕ → Type 0
AreLeastBelow n nodes = (k : ℕ) → 0 < k → k < n → IsLeastBelow nodes k
