-- What lines ask for.
use Rattle.std.specs.Prelude.{ℕ, ◌≤◌, ◌==◌, ◌&&◌, Bool, false, not, is_some, List, [], ◌∷◌, length, codes, nat_le, if◌then◌else◌, Option, Some, None, option_map}
use Rattle.std.specs.List.{list_all}
use Rattle.std.specs.Str.{bytes_eq}
use Rattle.sleep_base.specs.Digits.{is_digit}
use Rattle.wake_locks.specs.Texts.{value_of}
use Rattle.lock_commands.specs.declared.verb.LockVerb.{LockVerb}
use Rattle.lock_commands.specs.declared.verb.LockVerb.TheVariants.{Lock, Unlock, After, Active, Inactive}
use Rattle.lock_commands.specs.Lines.{word, rest}

-- a first digit that is no 0
abbrev pub starts_right : List ℕ → Bool
starts_right [] = false
starts_right (b ∷ digits) = not (b == 48)

-- a wait in ms: at most 8 digits, no 0 before the others, at most a day (own)
abbrev pub milliseconds : List ℕ → Option ℕ
milliseconds digits =
    if nat_le (length digits) 8 && list_all is_digit digits && starts_right digits && nat_le (value_of digits) 86400000
    then Some (value_of digits) else None

-- a line that is one word: the names that are active, or those that are not (wake_lock_show, wake_unlock_show)
abbrev pub verb_alone : List ℕ → Option LockVerb
verb_alone w = if bytes_eq w (codes "active") then Some Active else (if bytes_eq w (codes "inactive") then Some Inactive else None)

-- a word with a text after it: a write, or a wait (wake_lock_store, wake_unlock_store)
abbrev pub verb_before : List ℕ → List ℕ → Option LockVerb
verb_before w text =
    if bytes_eq w (codes "lock") then Some Lock
    else (if bytes_eq w (codes "unlock") then Some Unlock
    else (if bytes_eq w (codes "after") then option_map After (milliseconds text) else None))

-- what a line asks for, by whether it has a space
abbrev pub verb_of : List ℕ → Option LockVerb
verb_of line = if length (word line) == length line then verb_alone (word line) else verb_before (word line) (rest line)

-- a line of a form
abbrev pub is_line : List ℕ → Bool
is_line line = is_some (verb_of line)

-- a wait is at most a day
abbrev pub IsShort : LockVerb → Type 0
IsShort (After ms) = ms ≤ 86400000
IsShort _ = Unit {0}
