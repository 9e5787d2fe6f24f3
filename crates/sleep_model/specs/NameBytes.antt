-- How a name is spelled, and how it lies in its 32 bytes.
use Rattle.std.specs.Prelude.{◌≡◌, ◌≤◌, ◌-◌, ◌++◌, ◌==◌, ◌&&◌, ◌||◌, ℕ, Bool, List, length, take, replicate, nat_le}
use Rattle.std.specs.List.{list_all}

-- a to z, 0 to 9, _, . or - (own)
abbrev pub is_name_byte : ℕ → Bool
is_name_byte b = (nat_le 97 b && nat_le b 122) || (nat_le 48 b && nat_le b 57) || b == 95 || b == 46 || b == 45

-- a name: 1 to 32 such bytes (own)
abbrev pub is_name : List ℕ → Bool
is_name s = nat_le 1 (length s) && nat_le (length s) 32 && list_all is_name_byte s

-- the first len bytes are the name, and zeros fill the rest
abbrev pub IsPadded : List ℕ → ℕ → Type 0
IsPadded bytes len = (len ≤ 32) × (1 ≤ len) × (length bytes ≡ 32) × (take len bytes ++ replicate (32 - len) 0 ≡ bytes)
