-- Which calls on sources each actor makes, only by the journal, and how many of them it has made.
use Rattle.std.specs.Prelude.{ℕ, zero, suc, ◌+◌, Bool, true, false, ◌&&◌, ◌||◌, List, [], ◌∷◌, ◌++◌, length, map, if◌then◌else◌, Option, Some, None, slice_get}
use Rattle.sleep_model.specs.declared.entry.Actor.{Actor}
use Rattle.sleep_model.specs.declared.entry.Actor.TheVariants as actor
use Rattle.sleep_model.specs.declared.entry.Entry.{Entry}
use Rattle.sleep_model.specs.declared.entry.Kind.{Kind}
use Rattle.sleep_model.specs.declared.entry.Kind.TheVariants as kind
use Rattle.sleep_model.specs.declared.machine.Machine.{Machine}
use Rattle.sleep_model.specs.declared.machine.Script.{Script}
use Rattle.sleep_model.specs.declared.machine.SourceCall.{SourceCall}
use Rattle.sleep_model.specs.declared.machine.SourceCall.TheVariants as call
use Rattle.sleep_model.specs.declared.machine.What.TheVariants as what
use Rattle.sleep_model.specs.declared.word.WordKind.{WordKind}
use Rattle.sleep_model.specs.Answers.{answer, answer_reports}
use Rattle.sleep_model.specs.EntryClasses.{EntryClass, Notes, class_of}
use Rattle.sleep_model.specs.Path.{attempts, is_same, is_actor}
use Rattle.sleep_model.specs.Scripts.{Piece, Calls, Turns, pieces}
use Rattle.sleep_model.specs.Positions.{PositionEffect, Reads, Saves, Steps, position_effect}
use Rattle.sleep_model.specs.Sources.{owed, caller}

-- ---- the calls of a script's own steps

-- the calls that are made right before the turn with number k, from 0, or before the end after the last (own)
abbrev pub calls_at : List Piece → ℕ → List Kind
calls_at [] k = []
calls_at (Calls note ∷ rest) zero = note ∷ calls_at rest zero
calls_at (Calls note ∷ rest) (suc k) = calls_at rest (suc k)
calls_at (Turns ∷ rest) zero = []
calls_at (Turns ∷ rest) (suc k) = calls_at rest k

-- the pieces of a script, if there is one (own)
abbrev pub pieces_if : ℕ → Option Script → List Piece
pieces_if source None = []
pieces_if source (Some s) = pieces source s

-- the pieces of script i (own)
abbrev pub pieces_in : Machine → ℕ → List Piece
pieces_in m i = pieces_if (length m.sources) (slice_get m.actors i)

-- an entry with this effect on a script's position ends a step (own)
abbrev pub ends_step : PositionEffect → Bool
ends_step (Reads c) = true
ends_step (Saves ok) = true
ends_step Steps = true
ends_step _ = false

-- the setting of autosleep, which a step has besides its end (pm_autosleep_set_state)
abbrev pub is_setting : Kind → Bool
is_setting (kind.AutoSet state) = true
is_setting _ = false

-- an entry ends a turn of a script's own steps: a step, or the setting of autosleep (own)
abbrev pub ends_turn : Kind → Bool
ends_turn k = is_setting k || ends_step (position_effect k)

-- one more, if it is so (own)
abbrev pub one_more : Bool → ℕ → ℕ
one_more true before = before + 1
one_more false before = before

-- how many turns of its own steps an actor has ended (own)
abbrev pub turns_ended : Actor → List Entry → ℕ
turns_ended who [] = 0
turns_ended who (e ∷ past) = one_more (is_same e.actor who && ends_turn e.kind) (turns_ended who past)

-- the calls before an actor's turn with that number: only a script's has some (own)
abbrev pub calls_of_turn : Machine → Actor → ℕ → List Kind
calls_of_turn m (actor.Script i) k = calls_at (pieces_in m i) k
calls_of_turn m who k = []

-- the calls right after a turn that such an entry ends or does not, as the next turn has that number (own)
abbrev pub calls_after_turn : Machine → Actor → Bool → ℕ → List Kind
calls_after_turn m who true k = calls_of_turn m who k
calls_after_turn m who false k = []

-- ---- the reports of a callback

-- the note of a report (pm_wakeup_event, pm_stay_awake, pm_relax)
abbrev pub note : ℕ → SourceCall → Kind
note s call.Awake = kind.Awake s
note s call.Relax = kind.Relax s
note s (call.Event ms hard) = kind.Event s ms hard
note s call.Expire = kind.Expire s

-- the notes of the callback that an entry begins, when n attempts were begun (pm_wakeup_event in a callback)
abbrev pub report_calls : Machine → ℕ → Kind → List Kind
report_calls m n (kind.Begin p d) = map (λ r. note r.source r.call) (answer_reports (answer m (what.Device d p) n))
report_calls m n _ = []

-- ---- the calls of an actor

-- the calls that an actor owes in all before it may append to the journal, in order: those before its first turn, and after each entry of
-- its own the reports of the callback that it begins, and the calls of its steps up to the next turn; the entries are the journal's (own)
abbrev pub calls_of : Machine → Actor → List Entry → List Kind
calls_of m who [] = calls_of_turn m who 0
calls_of m who (e ∷ past) =
    if is_same e.actor who
    then calls_of m who past ++ report_calls m (attempts past) e.kind
    ++ calls_after_turn m who (ends_turn e.kind) (turns_ended who past + 1)
    else calls_of m who past

-- how many calls an actor owes in all before it may append to the journal (own)
abbrev pub calls_due : Machine → Actor → List Entry → ℕ
calls_due m who past = length (calls_of m who past)

-- ---- the calls that were made

-- an entry is a note of that actor (own)
abbrev pub is_note_of : Actor → Entry → EntryClass → Bool
is_note_of who e (Notes s made) = is_same e.actor who
is_note_of who e part = false

-- how many notes of that actor are among these (own)
abbrev pub notes_of : Actor → List Entry → ℕ
notes_of who [] = 0
notes_of who (e ∷ past) = one_more (is_note_of who e (class_of e.kind)) (notes_of who past)

-- how many calls that actor has made on the first n sources, whose histories these are (own)
abbrev pub made : ℕ → (ℕ → List Entry) → Actor → ℕ
made zero of who = 0
made (suc n) of who = notes_of who (of n) + made n of who

-- something is left (own)
abbrev pub is_left : List WordKind → Bool
is_left [] = false
is_left (step ∷ rest) = true

-- the actor is inside a call: one of the first n sources, whose histories these are, is owed steps of it (wakeup_source_report_event)
abbrev pub is_calling : ℕ → (ℕ → List Entry) → Actor → Bool
is_calling zero of who = false
is_calling (suc n) of who = (is_left (owed (of n)) && is_actor who (caller (of n))) || is_calling n of who
