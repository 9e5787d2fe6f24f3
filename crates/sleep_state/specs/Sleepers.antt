-- Which scripts sleep.
use Rattle.std.specs.Prelude.{◌≡◌, ◌<◌, ◌+◌, ℕ, zero, suc, Bool, true, false, not, ◌&&◌, ◌||◌, nat_lt, List, [], ◌∷◌, length, Option, Some, None, is_none}
use Rattle.sleep_model.specs.declared.progress.ScriptPosition.{ScriptPosition}
use Rattle.sleep_model.specs.Legal.{sooner}
use Rattle.sleep_model.specs.Places.{one_if}
use Rattle.sleep_model.specs.Positions.{position_at}

-- a script with that position neither sleeps nor has exited (own)
abbrev pub is_awake : ScriptPosition → Bool
is_awake position = not position.exited && is_none position.until

-- a script with that position has not exited (own)
abbrev pub is_there : ScriptPosition → Bool
is_there position = not position.exited

-- how many of these have such a position (own)
abbrev pub count_of : (ScriptPosition → Bool) → List ScriptPosition → ℕ
count_of so [] = 0
count_of so (position ∷ positions) = one_if (so position) + count_of so positions

-- the least end of the first n scripts' sleeps, if there is any (own)
abbrev pub earliest_end : List ScriptPosition → ℕ → Option ℕ
earliest_end positions zero = None
earliest_end positions (suc n) = sooner (position_at positions n).until (earliest_end positions n)

-- a moment, if there is one, is later than that time (own)
abbrev pub is_later : Option ℕ → ℕ → Bool
is_later None time = true
is_later (Some moment) time = nat_lt time moment

-- a sleep up to that moment goes on then (own)
abbrev pub sleeps_past : Option ℕ → ℕ → Bool
sleeps_past None time = false
sleeps_past (Some until) time = nat_lt time until

-- a script with that position has exited, or sleeps on then (own)
abbrev pub is_stopped : ScriptPosition → ℕ → Bool
is_stopped position time = position.exited || sleeps_past position.until time

-- so does each (own)
abbrev pub AreStopped : List ScriptPosition → ℕ → Type 0
AreStopped positions time = (i : ℕ) → i < length positions → is_stopped (position_at positions i) time ≡ true

-- the sleep of that script has come to its end by then (own)
abbrev pub HasSlept : List ScriptPosition → ℕ → ℕ → Type 0
HasSlept positions i time = is_later (position_at positions i).until time ≡ false

-- no script's has (own)
abbrev pub NoneSlept : List ScriptPosition → ℕ → Type 0
NoneSlept positions time = (i : ℕ) → is_later (position_at positions i).until time ≡ true
