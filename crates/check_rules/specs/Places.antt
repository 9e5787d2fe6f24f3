-- The room in sources' histories.
use Rattle.std.specs.Prelude.{◌==◌, ◌&&◌, ℕ, zero, suc, Bool, true, List, Option, Some, None, if◌then◌else◌}
use Rattle.sleep_model.specs.declared.entry.Entry.{Entry}
use Rattle.sleep_model.specs.Legal.{is_short}

-- the histories of the first n sources have room (own)
abbrev pub are_short : List Entry → ℕ → Bool
are_short past zero = true
are_short past (suc n) = is_short past n && are_short past n

-- the number of entries of source s, one more if that entry is its own (own)
abbrev pub with_own : Option ℕ → ℕ → ℕ → ℕ
with_own None s n = n
with_own (Some t) s n = if t == s then suc n else n
