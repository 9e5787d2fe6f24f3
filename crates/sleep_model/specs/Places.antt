-- How many entries a source's history may need: the room of its calls (own).
use Rattle.std.specs.Prelude.{ℕ, zero, suc, ◌+◌, ◌*◌, Bool, true, false, ◌==◌, ◌&&◌, nat_le, List, length, map, sum, count_by, if◌then◌else◌, Option, Some, None, is_none, flat_map}
use Rattle.sleep_model.specs.declared.machine.Answer.{Answer}
use Rattle.sleep_model.specs.declared.machine.Machine.{Machine}
use Rattle.sleep_model.specs.declared.machine.Op.{Op}
use Rattle.sleep_model.specs.declared.machine.Op.TheVariants.{State, Autosleep, Link, Awake, Relax, Event}
use Rattle.sleep_model.specs.declared.machine.Script.{Script}
use Rattle.sleep_model.specs.declared.machine.SourceCall.{SourceCall}
use Rattle.sleep_model.specs.declared.machine.SourceCall.TheVariants as call
use Rattle.sleep_model.specs.Answers.{answer_for}
use Rattle.sleep_model.specs.Scripts.{operations}

-- one if it is so, else none
abbrev pub one_if : Bool → ℕ
one_if true = 1
one_if false = 0

-- the room of a call: its note, and the steps that it and its expiry may make (own)
abbrev pub call_places : SourceCall → ℕ
call_places call.Awake = 2
call_places call.Relax = 2
call_places (call.Event ms hard) = (if ms == 0 then 3 else 4) + one_if hard
call_places call.Expire = 0

-- those on source s
abbrev pub places_if : ℕ → ℕ → ℕ → ℕ
places_if s source places = if source == s then places else 0

-- the room on source s for an operation, if autosleep has the source with number n (own)
abbrev pub op_places : ℕ → ℕ → Op → ℕ
op_places n s (Awake source) = places_if s source (call_places call.Awake)
op_places n s (Relax source) = places_if s source (call_places call.Relax)
op_places n s (Event source ms hard) = places_if s source (call_places (call.Event ms hard))
op_places n s (Autosleep text) = places_if s n 4
op_places n s _ = 0

-- all operations of all scripts, as often as they are made (own)
abbrev pub all_operations : List Script → List Op
all_operations scripts = flat_map operations scripts

-- a write to the state (state_store)
abbrev pub is_state : Op → Bool
is_state (State text if_saved) = true
is_state _ = false

-- a write to autosleep (autosleep_store)
abbrev pub is_autosleep : Op → Bool
is_autosleep (Autosleep text) = true
is_autosleep _ = false

-- a step that adds a link (device_link_add)
abbrev pub is_link_step : Op → Bool
is_link_step (Link supplier consumer) = true
is_link_step _ = false

-- how many links the scripts may add (own)
abbrev pub link_steps : List Script → ℕ
link_steps scripts = count_by is_link_step (all_operations scripts)

-- how many attempts may be begun: one a write to the state, and one a run of the autosleep work if autosleep is written (own)
abbrev pub most_attempts : Machine → ℕ
most_attempts m =
    count_by is_state (all_operations m.actors)
    + (if count_by is_autosleep (all_operations m.actors) == 0 then 0 else m.auto_cycles)

-- the room on source s for an answer's reports (own)
abbrev pub report_places : ℕ → Answer → ℕ
report_places s a = sum (map (λ r. places_if s r.source (call_places r.call)) a.reports)

-- how many of the first n attempts have no answer of their own for the same thing (own)
abbrev pub general_in : Answer → List Answer → ℕ → ℕ
general_in a answers zero = 0
general_in a answers (suc n) = one_if (is_none (answer_for a.what (Some (suc n)) answers)) + general_in a answers n

-- in how many of the first n attempts an answer applies (own)
abbrev pub attempts_with : Answer → List Answer → ℕ → Option ℕ → ℕ
attempts_with a answers n None = general_in a answers n
attempts_with a answers n (Some k) = one_if (nat_le 1 k && nat_le k n)

-- the room on source s that a machine's calls may need (own)
abbrev pub places : Machine → ℕ → ℕ
places m s =
    sum (map (op_places (length m.sources) s) (all_operations m.actors))
    + sum (map (λ a. attempts_with a m.answers (most_attempts m) a.attempt * report_places s a) m.answers)
