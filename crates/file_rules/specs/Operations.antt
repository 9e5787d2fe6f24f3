-- The operations of scripts: their table, their rules, and what they spell.
use Rattle.std.specs.Prelude.{ℕ, ◌++◌, List, [], ◌∷◌, length, codes, Bool, true, false, not, ◌&&◌, ◌||◌, nat_le, map, filter_map, flat_map, Option, option_map, unwrap_or, if◌then◌else◌}
use Rattle.std.specs.List.{find}
use Rattle.serde_json.specs.Data.{Data}
use Rattle.serde_json.specs.Find.{as_str}
use Rattle.sleep_model.specs.declared.machine.Op.{Op}
use Rattle.sleep_model.specs.declared.machine.Op.TheVariants.{Read, Save, State, Autosleep, Sleep, SleepD, FreezePoint, Post, Wait, Runtime, Link, LinkState, Awake, Relax, Event}
use Rattle.sleep_model.specs.declared.machine.Step.{Step}
use Rattle.sleep_model.specs.declared.machine.Script.{Script}
use Rattle.sleep_model.specs.declared.machine.TaskKind.{TaskKind}
use Rattle.sleep_model.specs.declared.machine.TaskKind.TheVariants.{User, Kthread, NoFreeze, Irq}
use Rattle.borrowed_json.specs.Look.{is_some_and, is_none_or, has_only, text_at, must_have, may_have, has_text, list_in, number_at, truth_at, word_at, is_string, is_truth, is_within, is_one_of}
use Rattle.file_rules.specs.Places.{first_operation}
use Rattle.file_rules.specs.Form.{is_time, statuses, link_states}
use Rattle.file_rules.specs.Names.{spells_name, is_among_names, sources_named, devices_named}
use Rattle.file_rules.specs.Spelled.{index_among}
use Rattle.file_rules.specs.Rules.{name_of, is_second}

-- ---- the table

-- a row of the table of operations: its word, the members of its own, their form, and the kinds that may make it
pub record Operation : Type 0 where
  pub word : List ℕ
  pub members : List (List ℕ)
  pub form : Data → Bool
  pub makers : List (List ℕ)

-- such a row
abbrev pub operation : List ℕ → List (List ℕ) → (Data → Bool) → List (List ℕ) → Operation
operation word members form makers = record { word = word; members = members; form = form; makers = makers }

-- only user space
abbrev pub users : List (List ℕ)
users = codes "user" ∷ []

-- every task (own)
abbrev pub tasks : List (List ℕ)
tasks = codes "user" ∷ codes "kthread" ∷ codes "nofreeze" ∷ []

-- every task, and interrupt lines (own)
abbrev pub everyone : List (List ℕ)
everyone = codes "user" ∷ codes "kthread" ∷ codes "nofreeze" ∷ codes "irq" ∷ []

-- it has no other member
abbrev pub plain : Data → Bool
plain o = true

-- a number to be saved, if it is given (pm_save_wakeup_count)
abbrev pub has_count : Data → Bool
has_count o = may_have (codes "count") (is_within 0 4294967295) o

-- a text of at most 32 bytes that is written to a file
abbrev pub has_short_text : Data → Bool
has_short_text o = must_have (codes "text") (λ d. is_some_and (λ s. nat_le (length s) 32) (as_str d)) o

-- a write to the state (state_store)
abbrev pub is_state_form : Data → Bool
is_state_form o = has_short_text o && may_have (codes "if_saved") is_truth o

-- a sleep of at least one ms
abbrev pub has_length : Data → Bool
has_length o = must_have (codes "ms") (is_time 1) o

-- a mark (own)
abbrev pub has_mark : Data → Bool
has_mark o = must_have (codes "mark") spells_name o

-- a request for a runtime status (pm_runtime_set_active, pm_runtime_set_suspended)
abbrev pub is_runtime_form : Data → Bool
is_runtime_form o = must_have (codes "device") is_string o && must_have (codes "to") (is_one_of statuses) o

-- the ends of a link (device_link_add)
abbrev pub has_ends_named : Data → Bool
has_ends_named o = must_have (codes "supplier") is_string o && must_have (codes "consumer") is_string o

-- a state of a link (struct device_link, status)
abbrev pub is_link_state_form : Data → Bool
is_link_state_form o = has_ends_named o && must_have (codes "to") (is_one_of link_states) o

-- a call on a source (pm_stay_awake, pm_relax)
abbrev pub has_source : Data → Bool
has_source o = must_have (codes "source") is_string o

-- an event of a source, which may have a length and may be hard (pm_wakeup_dev_event)
abbrev pub is_event_form : Data → Bool
is_event_form o = has_source o && may_have (codes "ms") (is_time 0) o && may_have (codes "hard") is_truth o

-- all operations (own)
abbrev pub operations : List Operation
operations =
    operation (codes "read") [] plain users
    ∷ operation (codes "save") (codes "count" ∷ []) has_count users
    ∷ operation (codes "state") (codes "text" ∷ codes "if_saved" ∷ []) is_state_form users
    ∷ operation (codes "autosleep") (codes "text" ∷ []) has_short_text users
    ∷ operation (codes "sleep") (codes "ms" ∷ []) has_length everyone
    ∷ operation (codes "sleep_d") (codes "ms" ∷ []) has_length tasks
    ∷ operation (codes "freeze_point") [] plain tasks
    ∷ operation (codes "post") (codes "mark" ∷ []) has_mark everyone
    ∷ operation (codes "wait") (codes "mark" ∷ []) has_mark everyone
    ∷ operation (codes "runtime") (codes "device" ∷ codes "to" ∷ []) is_runtime_form tasks
    ∷ operation (codes "link") (codes "supplier" ∷ codes "consumer" ∷ []) has_ends_named tasks
    ∷ operation (codes "link_state") (codes "supplier" ∷ codes "consumer" ∷ codes "to" ∷ []) is_link_state_form tasks
    ∷ operation (codes "awake") (codes "source" ∷ []) has_source everyone
    ∷ operation (codes "relax") (codes "source" ∷ []) has_source everyone
    ∷ operation (codes "event") (codes "source" ∷ codes "ms" ∷ codes "hard" ∷ []) is_event_form everyone
    ∷ []

-- the row of an operation, if it is of the table
abbrev pub row_of : Data → Option Operation
row_of o = find (λ r. has_text (codes "op") r.word o) operations

-- ---- the rules

-- its members are those of the row, and have their form; it is made 1 to 20000 times
abbrev pub fits_row : Data → Operation → Bool
fits_row o r = has_only (codes "op" ∷ codes "times" ∷ r.members) o && may_have (codes "times") (is_within 1 20000) o && r.form o

-- it changes links, which only a file of version 2 may ask for (device_link_add)
abbrev pub changes_links : Data → Bool
changes_links o = has_text (codes "op") (codes "link") o || has_text (codes "op") (codes "link_state") o

-- an operation of the table, in form, in a file of version 2 or of version 1
abbrev pub is_formed : Bool → Data → Data → Bool
is_formed second actor o = (second || not (changes_links o)) && is_some_and (fits_row o) (row_of o)

-- actors of this kind may have the operation in their scripts
abbrev pub is_allowed : Data → Data → Bool
is_allowed actor o = is_some_and (λ r. is_among_names r.makers (text_at (codes "kind") actor)) (row_of o)

-- the source that it names, if it names one, is of these
abbrev pub names_source : List (List ℕ) → Data → Bool
names_source sources o = is_none_or (is_among_names sources) (word_at (codes "source") o)

-- the device that it names at that member, if it names one, is of these
abbrev pub names_device_at : List ℕ → List (List ℕ) → Data → Bool
names_device_at member devices o = is_none_or (is_among_names devices) (word_at member o)

-- the devices that it names, if it names any, are of these
abbrev pub names_device : List (List ℕ) → Data → Bool
names_device devices o =
    names_device_at (codes "device") devices o && names_device_at (codes "supplier") devices o
    && names_device_at (codes "consumer") devices o

-- the place of an operation that is none of the table, or has not its form
abbrev pub unformed_operation : Data → Option (List ℕ)
unformed_operation file = first_operation (is_formed (is_second file)) file

-- the place of an operation that is not allowed to its maker
abbrev pub forbidden_operation : Data → Option (List ℕ)
forbidden_operation file = first_operation is_allowed file

-- the place of an operation that names a source which is not there
abbrev pub sourceless_operation : Data → Option (List ℕ)
sourceless_operation file = first_operation (λ actor. names_source (sources_named file)) file

-- the place of an operation that names a device which is not there
abbrev pub deviceless_operation : Data → Option (List ℕ)
deviceless_operation file = first_operation (λ actor. names_device (devices_named file)) file

-- ---- the scripts that are spelled

-- the marks of these operations, one for each time that one is named
abbrev pub marks_of : List Data → List (List ℕ)
marks_of script = filter_map (word_at (codes "mark")) script

-- each name only at its first position, after these
abbrev pub first_occurrences : List (List ℕ) → List (List ℕ) → List (List ℕ)
first_occurrences found [] = found
first_occurrences found (name ∷ names) = first_occurrences (if is_among_names found name then found else found ++ name ∷ []) names

-- the marks of a file, in the order of their first use
abbrev pub whole_marks : Data → List (List ℕ)
whole_marks file = first_occurrences [] (flat_map (λ a. marks_of (list_in (codes "script") a)) (list_in (codes "actors") file))

-- what operations name by numbers: the devices, the sources and the marks
pub record Known : Type 0 where
  pub devices : List (List ℕ)
  pub sources : List (List ℕ)
  pub marks : List (List ℕ)

-- what a file's operations name
abbrev pub known_of : Data → Known
known_of file = record { devices = devices_named file; sources = sources_named file; marks = whole_marks file }

-- the number of the thing that an operation names
abbrev pub thing_at : List ℕ → List (List ℕ) → Data → ℕ
thing_at member names o = index_among names (text_at member o)

-- the length that it gives, in ms; without one, 0
abbrev pub ms_of : Data → ℕ
ms_of o = unwrap_or (number_at (codes "ms") o) 0

-- it says so; without a word, it does not
abbrev pub says : List ℕ → Data → Bool
says member o = unwrap_or (truth_at member o) false

-- what each word of the table spells
abbrev pub spelled_op : Known → Data → List (List ℕ × Op)
spelled_op known o =
    (codes "read", Read)
    ∷ (codes "save", Save (number_at (codes "count") o))
    ∷ (codes "state", State (text_at (codes "text") o) (says (codes "if_saved") o))
    ∷ (codes "autosleep", Autosleep (text_at (codes "text") o))
    ∷ (codes "sleep", Sleep (ms_of o))
    ∷ (codes "sleep_d", SleepD (ms_of o))
    ∷ (codes "freeze_point", FreezePoint)
    ∷ (codes "post", Post (thing_at (codes "mark") known.marks o))
    ∷ (codes "wait", Wait (thing_at (codes "mark") known.marks o))
    ∷ (codes "runtime", Runtime (thing_at (codes "device") known.devices o) (has_text (codes "to") (codes "suspended") o))
    ∷ (codes "link", Link (thing_at (codes "supplier") known.devices o) (thing_at (codes "consumer") known.devices o))
    ∷ (codes "link_state", LinkState (thing_at (codes "supplier") known.devices o) (thing_at (codes "consumer") known.devices o) (not (has_text (codes "to") (codes "dormant") o)))
    ∷ (codes "awake", Awake (thing_at (codes "source") known.sources o))
    ∷ (codes "relax", Relax (thing_at (codes "source") known.sources o))
    ∷ (codes "event", Event (thing_at (codes "source") known.sources o) (ms_of o) (says (codes "hard") o))
    ∷ []

-- the operation that is spelled; Read if it is none of the table, which the rules refuse
abbrev pub whole_op : Known → Data → Op
whole_op known o = unwrap_or (option_map (λ r. r.1) (find (λ r. has_text (codes "op") r.0 o) (spelled_op known o))) Read

-- an operation, and how often it is made
abbrev pub whole_step : Known → Data → Step
whole_step known o = record { op = whole_op known o; times = unwrap_or (number_at (codes "times") o) 1 }

-- the kind that a word is; User if it is none, which the rules refuse
abbrev pub kind_of : Data → TaskKind
kind_of a = if has_text (codes "kind") (codes "kthread") a then Kthread else if has_text (codes "kind") (codes "nofreeze") a then NoFreeze else if has_text (codes "kind") (codes "irq") a then Irq else User

-- an actor's script
abbrev pub whole_script : Known → Data → Script
whole_script known a =
    record { name = name_of a; kind = kind_of a; repeat = unwrap_or (number_at (codes "repeat") a) 1; steps = map (whole_step known) (list_in (codes "script") a) }

-- the scripts of a file
abbrev pub whole_scripts : Data → List Script
whole_scripts file = map (whole_script (known_of file)) (list_in (codes "actors") file)
