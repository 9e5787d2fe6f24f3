-- The texts that are written to wake_lock and wake_unlock.
use Rattle.std.specs.Prelude.{ℕ, ◌+◌, ◌-◌, ◌*◌, ◌/◌, ◌==◌, ◌&&◌, false, not, List, [], length, take, drop, fold, nat_le, slice_index, position, if◌then◌else◌, Option, Some, None, option_map}
use Rattle.std.specs.List.{list_all}
use Rattle.sleep_base.specs.Digits.{is_digit}
use Rattle.sleep_model.specs.NameBytes.{is_name}
use Rattle.sleep_model.specs.declared.machine.SourceCall.{SourceCall}
use Rattle.sleep_model.specs.declared.machine.SourceCall.TheVariants as call

-- the text without the newline that may end it
abbrev pub line_of : List ℕ → List ℕ
line_of text = if slice_index text (length text - 1) == 10 then take (length text - 1) text else text

-- the number of these digits
abbrev pub value_of : List ℕ → ℕ
value_of digits = fold (λ n b. 10 * n + (b - 48)) 0 digits

-- a timeout in nanoseconds: 1 to 20 digits, of at most a day (own)
abbrev pub nanoseconds : List ℕ → Option ℕ
nanoseconds digits =
    if nat_le 1 (length digits) && nat_le (length digits) 20 && list_all is_digit digits && nat_le (value_of digits) 86400000000000
    then Some (value_of digits) else None

-- the call of a timeout: milliseconds, rounded up; no timeout is one of 0 (pm_wake_lock)
abbrev pub timed : ℕ → SourceCall
timed ns = if ns == 0 then call.Awake else call.Event ((ns + 999999) / 1000000) false

-- what follows the spaces
abbrev pub after_spaces : Option ℕ → List ℕ → List ℕ
after_spaces None rest = []
after_spaces (Some at) rest = drop at rest

-- the call of what follows a name: spaces, and a timeout (pm_wake_lock)
abbrev pub timeout : List ℕ → Option SourceCall
timeout rest = option_map timed (nanoseconds (after_spaces (position (λ b. not (b == 32)) rest) rest))

-- a name and a call, if the name is one
abbrev pub named : List ℕ → Option SourceCall → Option (List ℕ × SourceCall)
named name made = if is_name name then option_map (λ c. (name, c)) made else None

-- what a line asks for, by the index of its first space
abbrev pub asked_in : Option ℕ → List ℕ → Option (List ℕ × SourceCall)
asked_in None line = named line (Some call.Awake)
asked_in (Some at) line = named (take at line) (timeout (drop at line))

-- what a text for wake_lock asks for, if it is of a form (pm_wake_lock)
abbrev pub lock_text : List ℕ → Option (List ℕ × SourceCall)
lock_text text = asked_in (position (λ b. b == 32) (line_of text)) (line_of text)

-- the name in a text for wake_unlock, if it is of a form (pm_wake_unlock)
abbrev pub unlock_text : List ℕ → Option (List ℕ)
unlock_text text = if is_name (line_of text) then Some (line_of text) else None
