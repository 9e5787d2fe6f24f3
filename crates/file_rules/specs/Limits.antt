-- How many things a file may have, and how much may happen.
use Rattle.std.specs.Prelude.{ℕ, ◌+◌, ◌*◌, List, [], ◌∷◌, length, codes, Bool, true, ◌&&◌, nat_le, sum_by, unwrap_or, Option, if◌then◌else◌}
use Rattle.std.specs.List.{list_any}
use Rattle.std.specs.Option.{option_or}
use Rattle.serde_json.specs.Data.{Data}
use Rattle.borrowed_json.specs.Look.{has_text, list_in, number_at}
use Rattle.file_rules.specs.Places.{unless}
use Rattle.file_rules.specs.Form.{Named, row, first_row}

-- ---- how many

-- the most items of each list (own)
abbrev pub most_items : List (Named ℕ)
most_items =
    row (codes "devices") 1000
    ∷ row (codes "links") 4000
    ∷ row (codes "syscore") 32
    ∷ row (codes "notifiers") 32
    ∷ row (codes "sources") 255
    ∷ row (codes "actors") 256
    ∷ row (codes "answers") 10000
    ∷ []

-- which list is too long
abbrev pub too_many : Data → Option (List ℕ)
too_many file = first_row (λ r. nat_le (length (list_in r.name file)) r.is) most_items

-- ---- how much

-- how often an operation is made each time
abbrev pub times_of : Data → ℕ
times_of o = unwrap_or (number_at (codes "times") o) 1

-- how often an actor makes its script
abbrev pub repeat_of : Data → ℕ
repeat_of a = unwrap_or (number_at (codes "repeat") a) 1

-- an operation counts as often as it is made, if it passes
abbrev pub times_if : (Data → Bool) → Data → ℕ
times_if test o = if test o then times_of o else 0

-- how many steps an actor's script has whose operations pass
abbrev pub script_steps : (Data → Bool) → Data → ℕ
script_steps test a = repeat_of a * sum_by (times_if test) (list_in (codes "script") a)

-- how many steps all scripts have whose operations pass
abbrev pub all_steps : (Data → Bool) → Data → ℕ
all_steps test file = sum_by (script_steps test) (list_in (codes "actors") file)

-- a write to the state (state_store)
abbrev pub is_state_step : Data → Bool
is_state_step o = has_text (codes "op") (codes "state") o

-- an actor that writes to autosleep (autosleep_store)
abbrev pub has_autosleep : Data → Bool
has_autosleep a = list_any (has_text (codes "op") (codes "autosleep")) (list_in (codes "script") a)

-- how many attempts autosleep may begin (try_to_suspend)
abbrev pub autosleep_attempts : Data → ℕ
autosleep_attempts file = if list_any has_autosleep (list_in (codes "actors") file) then unwrap_or (number_at (codes "auto_cycles") file) 16 else 0

-- how many attempts may be begun
abbrev pub most_attempts : Data → ℕ
most_attempts file = all_steps is_state_step file + autosleep_attempts file

-- a step that adds a link (device_link_add)
abbrev pub is_link_step : Data → Bool
is_link_step o = has_text (codes "op") (codes "link") o

-- at most 4000 links, those of the file and those that steps may add
abbrev pub are_links_few : Data → Bool
are_links_few file = nat_le (length (list_in (codes "links") file) + all_steps is_link_step file) 4000

-- at most 200000 steps, and at most 100000 turns, of devices and 50 others, over all attempts; and few links
abbrev pub are_steps_few : Data → Bool
are_steps_few file = nat_le (all_steps (λ o. true) file) 200000 && nat_le (most_attempts file * (length (list_in (codes "devices") file) + 50)) 100000
    && are_links_few file

-- at most 10000 reports
abbrev pub are_reports_few : Data → Bool
are_reports_few file = nat_le (sum_by (λ a. length (list_in (codes "reports") a)) (list_in (codes "answers") file)) 10000

-- the place at which too much may happen
abbrev pub too_much : Data → Option (List ℕ)
too_much file = option_or (unless (are_steps_few file) (codes "actors")) (unless (are_reports_few file) (codes "answers"))
