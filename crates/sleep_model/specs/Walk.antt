-- Flags by number, and searches among devices in their order (drivers/base/power/main.c, dpm_list).
use Rattle.std.specs.Prelude.{ℕ, Bool, false, List, [], ◌∷◌, if◌then◌else◌, Option, Some, None, slice_index_or}

-- the flag at that number
abbrev pub is_so : List Bool → ℕ → Bool
is_so flags x = slice_index_or flags x false

-- the first that passes (list_first_entry)
abbrev pub first_where : (ℕ → Bool) → List ℕ → Option ℕ
first_where p [] = None
first_where p (x ∷ xs) = if p x then Some x else first_where p xs

-- one option, or else the other (own)
abbrev pub or_else : {A : Type 0} → Option A → Option A → Option A
or_else None other = other
or_else (Some x) other = Some x

-- the last that passes (list_entry of dpm_list.prev)
abbrev pub last_where : (ℕ → Bool) → List ℕ → Option ℕ
last_where p [] = None
last_where p (x ∷ xs) = or_else (last_where p xs) (if p x then Some x else None)
