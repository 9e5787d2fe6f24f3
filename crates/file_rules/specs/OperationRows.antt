-- The rows of the table of operations, and the tests of operations, by name.
use Rattle.std.specs.Prelude.{ℕ, ◌==◌, ◌&&◌, ◌||◌, List, Bool, true, not, codes, [], ◌∷◌, bytes_eq, Option}
use Rattle.std.specs.List.{find, list_all}
use Rattle.serde_json.specs.Data.{Data}
use Rattle.sleep_model.specs.declared.machine.Op.{Op}
use Rattle.sleep_model.specs.declared.machine.Op.TheVariants.{Read, Save, State, Autosleep, Sleep, SleepD, FreezePoint, Post, Wait, Runtime, Link, LinkState, Awake, Relax, Event}
use Rattle.file_rules.specs.declared.rules.operations.Word.{Word}
use Rattle.file_rules.specs.declared.rules.operations.Word.TheVariants as word
use Rattle.file_rules.specs.declared.rules.operations.OperationTest.{OperationTest}
use Rattle.file_rules.specs.declared.rules.operations.OperationTest.TheVariants as test
use Rattle.file_rules.specs.declared.names.known.Known.{Known}
use Rattle.file_rules.specs.Knows.{names, texts}
use Rattle.borrowed_json.specs.Look.{has_only, is_none_or, is_some_and, text_at, has_text, list_in, may_have, must_have, number_at, word_at, is_one_of, is_string, is_truth, is_within}
use Rattle.file_rules.specs.Form.{is_time, link_states, statuses}
use Rattle.file_rules.specs.Names.{is_among_names}
use Rattle.file_rules.specs.Operations.{Known as Names, ms_of, says, thing_at, Operation, operation, operations, users, tasks, everyone, plain, has_count, is_state_form, has_short_text, has_length, has_mark, is_runtime_form, has_ends_named, is_link_state_form, has_source, is_event_form, is_formed, is_allowed, names_source, names_device, changes_links, fits_row, row_of}

-- the row of a word
abbrev pub operation_of_word : Word → Operation
operation_of_word word.Read = operation (codes "read") [] plain users
operation_of_word word.Save = operation (codes "save") (codes "count" ∷ []) has_count users
operation_of_word word.State = operation (codes "state") (codes "text" ∷ codes "if_saved" ∷ []) is_state_form users
operation_of_word word.Autosleep = operation (codes "autosleep") (codes "text" ∷ []) has_short_text users
operation_of_word word.Sleep = operation (codes "sleep") (codes "ms" ∷ []) has_length everyone
operation_of_word word.SleepD = operation (codes "sleep_d") (codes "ms" ∷ []) has_length tasks
operation_of_word word.FreezePoint = operation (codes "freeze_point") [] plain tasks
operation_of_word word.Post = operation (codes "post") (codes "mark" ∷ []) has_mark everyone
operation_of_word word.Wait = operation (codes "wait") (codes "mark" ∷ []) has_mark everyone
operation_of_word word.Runtime = operation (codes "runtime") (codes "device" ∷ codes "to" ∷ []) is_runtime_form tasks
operation_of_word word.Link = operation (codes "link") (codes "supplier" ∷ codes "consumer" ∷ []) has_ends_named tasks
operation_of_word word.LinkState = operation (codes "link_state") (codes "supplier" ∷ codes "consumer" ∷ codes "to" ∷ []) is_link_state_form tasks
operation_of_word word.Awake = operation (codes "awake") (codes "source" ∷ []) has_source everyone
operation_of_word word.Relax = operation (codes "relax") (codes "source" ∷ []) has_source everyone
operation_of_word word.Event = operation (codes "event") (codes "source" ∷ codes "ms" ∷ codes "hard" ∷ []) is_event_form everyone

-- the first version of the file that has operations of that word
abbrev pub first_version : Word → ℕ
first_version word.Link = 2
first_version word.LinkState = 2
first_version _ = 1

-- an operation of that word changes links
abbrev pub word_changes_links : Word → Bool
word_changes_links w = not (first_version w == 1)

-- the words, in the order of the table
abbrev pub words : List Word
words =
    word.Read ∷ word.Save ∷ word.State ∷ word.Autosleep ∷ word.Sleep ∷ word.SleepD ∷ word.FreezePoint ∷ word.Post ∷ word.Wait ∷ word.Runtime ∷ word.Link ∷ word.LinkState ∷ word.Awake ∷ word.Relax ∷ word.Event ∷ []

-- the row of the word that a text is, if it is of the table
abbrev pub row_named : List ℕ → Option Operation
row_named text = find (λ r. bytes_eq text r.word) operations

-- what an operation with that word spells
abbrev pub op_spelled : Word → Names → Data → Op
op_spelled word.Read names o = Read
op_spelled word.Save names o = Save (number_at (codes "count") o)
op_spelled word.State names o = State (text_at (codes "text") o) (says (codes "if_saved") o)
op_spelled word.Autosleep names o = Autosleep (text_at (codes "text") o)
op_spelled word.Sleep names o = Sleep (ms_of o)
op_spelled word.SleepD names o = SleepD (ms_of o)
op_spelled word.FreezePoint names o = FreezePoint
op_spelled word.Post names o = Post (thing_at (codes "mark") names.marks o)
op_spelled word.Wait names o = Wait (thing_at (codes "mark") names.marks o)
op_spelled word.Runtime names o = Runtime (thing_at (codes "device") names.devices o) (has_text (codes "to") (codes "suspended") o)
op_spelled word.Link names o = Link (thing_at (codes "supplier") names.devices o) (thing_at (codes "consumer") names.devices o)
op_spelled word.LinkState names o = LinkState (thing_at (codes "supplier") names.devices o) (thing_at (codes "consumer") names.devices o) (not (has_text (codes "to") (codes "dormant") o))
op_spelled word.Awake names o = Awake (thing_at (codes "source") names.sources o)
op_spelled word.Relax names o = Relax (thing_at (codes "source") names.sources o)
op_spelled word.Event names o = Event (thing_at (codes "source") names.sources o) (ms_of o) (says (codes "hard") o)

-- a thing that is named at a member, which has to be given, is of these
abbrev pub must_name : List ℕ → List (List ℕ) → Data → Bool
must_name member names o = must_have member is_string o && is_none_or (is_among_names names) (word_at member o)

-- both ends of a link are devices
abbrev pub names_ends : List (List ℕ) → Data → Bool
names_ends devices o = must_name (codes "supplier") devices o && must_name (codes "consumer") devices o

-- an operation with that word has its form, and the things that it names are known
abbrev pub row_test : Word → Names → Data → Bool
row_test word.Read names o = true
row_test word.Save names o = has_count o
row_test word.State names o = is_state_form o
row_test word.Autosleep names o = has_short_text o
row_test word.Sleep names o = has_length o
row_test word.SleepD names o = has_length o
row_test word.FreezePoint names o = true
row_test word.Post names o = has_mark o
row_test word.Wait names o = has_mark o
row_test word.Runtime names o = must_name (codes "device") names.devices o && must_have (codes "to") (is_one_of statuses) o
row_test word.Link names o = names_ends names.devices o
row_test word.LinkState names o = names_ends names.devices o && must_have (codes "to") (is_one_of link_states) o
row_test word.Awake names o = must_name (codes "source") names.sources o
row_test word.Relax names o = must_name (codes "source") names.sources o
row_test word.Event names o = must_name (codes "source") names.sources o && may_have (codes "ms") (is_time 0) o && may_have (codes "hard") is_truth o

-- a kind of task may make an operation with that word, which keeps each rule on one operation
abbrev pub word_test : Bool → List ℕ → Word → Names → Data → Bool
word_test second kind w names o =
    (second || not (word_changes_links w)) && is_among_names (operation_of_word w).makers kind && has_only (codes "op" ∷ codes "times" ∷ (operation_of_word w).members) o
    && may_have (codes "times") (is_within 1 20000) o && row_test w names o

-- an operation keeps each rule on one operation, beside the kind of its actor and what is known
abbrev pub is_valid_for : Bool → List ℕ → Names → Data → Bool
is_valid_for second kind names o =
    (second || not (changes_links o)) && is_some_and (fits_row o) (row_of o) && is_some_and (λ r. is_among_names r.makers kind) (row_of o) && names_source names.sources o
    && names_device names.devices o

-- so each operation of an actor does
abbrev pub is_valid_script : Bool → Names → Data → Bool
is_valid_script second names a = list_all (is_valid_for second (text_at (codes "kind") a) names) (list_in (codes "script") a)

-- a test of an operation of that actor
abbrev pub operation_test : OperationTest → Known → Data → Data → Bool
operation_test (test.Formed second) k actor = is_formed second actor
operation_test test.Allowed k actor = is_allowed actor
operation_test test.Source k actor = names_source (texts k.sources)
operation_test test.Device k actor = names_device (names k.devices)
