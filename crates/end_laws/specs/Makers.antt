-- Who makes the entries of a legal log determines all of it (own: Linux keeps no log).
use Rattle.std.specs.Prelude.{◌≡◌, ℕ, ◌+◌, Bool, List, [], ◌∷◌, length, map, if◌then◌else◌, Option, Some, None, slice_get}
use Rattle.sleep_model.specs.declared.entry.Actor.{Actor}
use Rattle.sleep_model.specs.declared.entry.Actor.TheVariants as actor
use Rattle.sleep_model.specs.declared.entry.Entry.{Entry}
use Rattle.sleep_model.specs.declared.entry.Kind.{Kind}
use Rattle.sleep_model.specs.declared.entry.Kind.TheVariants as kind
use Rattle.sleep_model.specs.declared.machine.Machine.{Machine}
use Rattle.sleep_model.specs.declared.progress.Due.{Due}
use Rattle.sleep_model.specs.declared.progress.Due.TheVariants.{Makes}
use Rattle.sleep_model.specs.declared.word.EventNow.{EventNow}
use Rattle.sleep_model.specs.declared.word.WordKind.{WordKind}
use Rattle.sleep_model.specs.declared.word.WordKind.TheVariants as step
use Rattle.sleep_model.specs.Calls.{calls_of, is_calling, made}
use Rattle.sleep_model.specs.Due.{due}
use Rattle.sleep_model.specs.Legal.{IsLegal, next_time}
use Rattle.sleep_model.specs.Numbers.{numbers, time_of}
use Rattle.sleep_model.specs.EntryClasses.{EntryClass, Notes, Moves, journal, class_of}
use Rattle.sleep_model.specs.Path.{is_same}
use Rattle.sleep_model.specs.Sources.{history, owed}

-- ---- a step on the word

-- the entry of a step on the word by source s (wakeup_source_activate, wakeup_source_deactivate)
abbrev pub step_kind : ℕ → WordKind → Kind
step_kind s step.Start = kind.Start s
step_kind s step.Finish = kind.Finish s
step_kind s step.Hard = kind.Hard s

-- the source of a note or a step
abbrev pub source_in : EntryClass → Option ℕ
source_in (Notes s call) = Some s
source_in (Moves s move) = Some s
source_in _ = None

-- the source of the actor's last entry, if that is a source's
abbrev pub last_source : Actor → List Entry → Option ℕ
last_source who [] = None
last_source who (e ∷ past) =
    if is_same e.actor who then source_in (class_of e.kind) else last_source who past

-- the first of the steps that source s owes
abbrev pub first_step : ℕ → List WordKind → Option Kind
first_step s [] = None
first_step s (x ∷ rest) = Some (step_kind s x)

-- the next step of an actor inside a call on that source
abbrev pub step_next : List Entry → Option ℕ → Option Kind
step_next past None = None
step_next past (Some s) = first_step s (owed (history s past))

-- ---- the next entry of an actor

-- the actor is inside a call (wakeup_source_report_event)
abbrev pub is_inside_call : Machine → List Entry → Actor → Bool
is_inside_call m past who = is_calling (length m.sources + 1) (λ s. history s past) who

-- the next call, if one is owed, else what is due
abbrev pub call_or_turn : Option Kind → Due → Option Kind
call_or_turn (Some note) next = Some note
call_or_turn None (Makes k) = Some k
call_or_turn None _ = None

-- the actor's next call on a source, if it owes one
abbrev pub call_next : Machine → List Entry → Actor → Option Kind
call_next m past who =
    slice_get (calls_of m who (journal past)) (made (length m.sources + 1) (λ s. history s past) who)

-- what an actor makes next, by all entries so far and nothing else: time jumps; who is inside a call makes its next step; a timer ends its
-- source's event; others make the next call that they owe, else what is due of them
abbrev pub kind_next : Machine → List Entry → Actor → Option Kind
kind_next m past actor.Time = Some kind.Jump
kind_next m past (actor.Timer s) =
    if is_inside_call m past (actor.Timer s) then step_next past (last_source (actor.Timer s) past)
    else Some (kind.Expire s)
kind_next m past who =
    if is_inside_call m past who then step_next past (last_source who past)
    else call_or_turn (call_next m past who) (due m (journal past) who (numbers past))

-- when it makes that: time jumps to the least pending moment
abbrev pub time_next : Machine → List Entry → Actor → Option ℕ
time_next m past actor.Time = next_time m (journal past) (λ s. history s past)
time_next m past who = Some (time_of past)

-- an entry of that actor, if its time and its kind are there
abbrev pub entry_if : EventNow → Actor → Option ℕ → Option Kind → Option Entry
entry_if now who (Some time) (Some k) = Some (record { time = time; now = now; actor = who; kind = k })
entry_if now who _ _ = None

-- the one entry that an actor may make after these
abbrev pub entry_by : Machine → List Entry → Actor → Option Entry
entry_by m past who = entry_if (numbers past) who (time_next m past who) (kind_next m past who)

-- ---- the laws

-- each entry, the newest first, is the one that its actor may make
abbrev pub AreDetermined : Machine → List Entry → Type 0
AreDetermined m [] = Unit {0}
AreDetermined m (e ∷ past) = (entry_by m past e.actor ≡ Some e) × AreDetermined m past

-- so is each of a legal list of entries
abbrev pub MakersDetermineEntries : Type 0
MakersDetermineEntries = (m : Machine) (past : List Entry) → IsLegal m past → AreDetermined m past

-- two legal lists of entries of one machine, made by the same actors in turn, are the same
abbrev pub MakersDetermineLogs : Type 0
MakersDetermineLogs =
    (m : Machine) (one other : List Entry) → IsLegal m one → IsLegal m other
    → map (λ e. e.actor) one ≡ map (λ e. e.actor) other → one ≡ other
