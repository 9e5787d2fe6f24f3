-- A wakeup source as contracts see it, and what each entry leaves of it.
use Rattle.std.specs.Prelude.{◌≡◌, ◌≤◌, ◌<◌, ◌+◌, ℕ, true, max, List, [], ◌∷◌, length}
use Rattle.sleep_model.specs.declared.entry.Actor.{Actor}
use Rattle.sleep_model.specs.declared.entry.Entry.{Entry}
use Rattle.sleep_model.specs.declared.entry.Kind.{Kind}
use Rattle.sleep_model.specs.declared.entry.Kind.TheVariants as kind
use Rattle.sleep_model.specs.declared.entry.SourceEntry.{SourceEntry}
use Rattle.sleep_model.specs.declared.machine.SourceCall.{SourceCall}
use Rattle.sleep_model.specs.declared.word.EventNow.{EventNow}
use Rattle.sleep_model.specs.declared.word.Stamp.{Stamp}
use Rattle.sleep_model.specs.declared.word.WordKind.{WordKind}
use Rattle.sleep_model.specs.declared.word.WordKind.TheVariants as step
use Rattle.sleep_model.specs.Calls.{note}
use Rattle.sleep_model.specs.Merge.{of_source, next_position}
use Rattle.sleep_model.specs.EntryClasses.{class_of}
use Rattle.sleep_model.specs.Sources.{is_of, owed, most_entries, SourceStep}
use Rattle.sleep_model.specs.Word.{position}
use Rattle.wakeup_source.specs.declared.call_by.CallBy.{CallBy}

-- a source's number, its entries, the newest first, and what it last knew
pub record SourceState : Type 0 where
  pub id : ℕ
  pub past : List SourceEntry
  pub floor : Stamp

-- the entries without their stamps
abbrev pub unstamped_source : List SourceEntry → List Entry
unstamped_source [] = []
unstamped_source (e ∷ past) = e.entry ∷ unstamped_source past

-- a source that was never called
abbrev pub new_source : ℕ → SourceState
new_source id = record { id = id; past = []; floor = record { pos = 0; tick = 0 } }

-- the time of the newest entry in ms, 0 if there is none
abbrev pub latest : List Entry → ℕ
latest [] = 0
latest (e ∷ own) = e.time

-- ---- entries

-- what a source writes of a step on the word (wakeup_source_activate, wakeup_source_deactivate, pm_system_wakeup)
abbrev pub step_kind : ℕ → WordKind → Kind
step_kind s step.Start = kind.Start s
step_kind s step.Finish = kind.Finish s
step_kind s step.Hard = kind.Hard s

-- the note of an actor's call that saw that word
abbrev pub note_entry : ℕ → SourceCall → Actor → ℕ → EventNow → Entry
note_entry s call who time seen = record { time = time; now = seen; actor = who; kind = note s call }

-- a step of the call, with the word before it
abbrev pub step_entry : ℕ → WordKind → Actor → ℕ → EventNow → Entry
step_entry s step who time before = record { time = time; now = before; actor = who; kind = step_kind s step }

-- the tick of a note: after what its maker and the source last knew
abbrev pub note_tick : CallBy → SourceState → ℕ
note_tick by source = max by.floor.tick source.floor.tick + 1

-- the source after the note of a call that saw that word
abbrev pub with_note : CallBy → SourceCall → EventNow → SourceState → SourceState
with_note by call seen source = record {
  id = source.id;
  past = record {
    stamp = record { pos = position seen; tick = note_tick by source };
    entry = note_entry source.id call by.actor by.now seen;
  } ∷ source.past;
  floor = record { pos = position seen; tick = note_tick by source };
}

-- the source after a step with that word before it: the position is then one more
abbrev pub with_step : CallBy → WordKind → EventNow → SourceState → SourceState
with_step by step before source = record {
  id = source.id;
  past = record {
    stamp = record { pos = position before; tick = source.floor.tick + 1 };
    entry = step_entry source.id step by.actor by.now before;
  } ∷ source.past;
  floor = record { pos = position before + 1; tick = source.floor.tick + 1 };
}

-- the later of two stamps, number by number
abbrev pub later_stamp : Stamp → Stamp → Stamp
later_stamp one other = record { pos = max one.pos other.pos; tick = max one.tick other.tick }

-- ---- what holds of a source between calls

-- each entry's tick is above those before it, no position and no time falls, and a position rises after a step
abbrev pub RisesAfter : SourceEntry → List SourceEntry → Type 0
RisesAfter newer [] = Unit {0}
RisesAfter newer (e ∷ past) =
    (next_position (of_source e) ≤ newer.stamp.pos) × (e.stamp.tick < newer.stamp.tick) × (e.entry.time ≤ newer.entry.time)
    × RisesAfter e past

-- the entries are in order, up to what the source last knew: after a step that is one position more
abbrev pub RiseUpTo : Stamp → List SourceEntry → Type 0
RiseUpTo floor [] = Unit {0}
RiseUpTo floor (e ∷ past) = (next_position (of_source e) ≤ floor.pos) × (e.stamp.tick ≤ floor.tick) × RisesAfter e past

-- each entry, the newest first, is of that source and legal after the older ones
abbrev pub IsOwnHistory : ℕ → List Entry → Type 0
IsOwnHistory s [] = Unit {0}
IsOwnHistory s (e ∷ own) =
    (is_of s (class_of e.kind) ≡ true) × SourceStep own e.time e.actor (class_of e.kind) × IsOwnHistory s own

-- between calls: no step is owed, the history is legal, in order, and not too long
pub record IsSettled (source : SourceState) : Type 0 where
  pub owes_none : owed (unstamped_source source.past) ≡ []
  pub legal : IsOwnHistory source.id (unstamped_source source.past)
  pub in_order : RiseUpTo source.floor source.past
  pub short : length source.past ≤ most_entries

-- and it has that number of places
pub record HasPlaces (cap : ℕ) (source : SourceState) : Type 0 where
  pub settled : IsSettled source
  pub places : length source.past ≤ cap
  pub few : cap ≤ most_entries
