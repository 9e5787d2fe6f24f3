-- The core as contracts see it, and what a turn does.
use Rattle.std.specs.Prelude.{◌<◌, ◌+◌, ℕ, max, List, ◌∷◌, length}
use Rattle.sleep_model.specs.declared.entry.Actor.{Actor}
use Rattle.sleep_model.specs.declared.entry.Actor.TheVariants as actor
use Rattle.sleep_model.specs.declared.entry.JournalEntry.{JournalEntry}
use Rattle.sleep_model.specs.declared.entry.Kind.{Kind}
use Rattle.sleep_model.specs.declared.entry.Kind.TheVariants as kind
use Rattle.sleep_model.specs.declared.machine.Machine.{Machine}
use Rattle.sleep_model.specs.declared.word.EventNow.{EventNow}
use Rattle.sleep_model.specs.declared.word.Stamp.{Stamp}
use Rattle.sleep_model.specs.Numbers.{time_of}
use Rattle.sleep_model.specs.Word.{position}
use Rattle.sleep_state.specs.JournalRooms.{entries}
use Rattle.core_history.specs.Histories.{last_stamp}

-- the machine that a core runs, and its journal, the newest entry first
pub record CoreState : Type 0 where
  pub machine : Machine
  pub past : List JournalEntry

-- an actor whose turns the core makes: a script, the autosleep work, or a device
abbrev pub IsActor : Machine → Actor → Type 0
IsActor m (actor.Script i) = i < length m.actors
IsActor m actor.Auto = Unit {0}
IsActor m (actor.Dev d) = d < length m.devices
IsActor m (actor.Timer s) = ⊥
IsActor m actor.Time = ⊥

-- the stamp of an entry that saw this word: it follows what its maker and the journal last knew
abbrev pub next_stamp : List JournalEntry → Stamp → EventNow → Stamp
next_stamp past floor word = record { pos = position word; tick = max floor.tick (last_stamp past).tick + 1 }

-- the entry that an actor makes now
abbrev pub made_entry : List JournalEntry → Actor → EventNow → Stamp → Kind → JournalEntry
made_entry past who word floor k = record {
  stamp = next_stamp past floor word;
  entry = record { time = time_of (entries past); now = word; actor = who; kind = k };
}

-- the core after an entry
abbrev pub core_after : CoreState → JournalEntry → CoreState
core_after core j = record core { past = j ∷ core.past }

-- the entry of a jump to that time
abbrev pub jump_entry : List JournalEntry → EventNow → ℕ → Stamp → JournalEntry
jump_entry past seen to floor = record {
  stamp = next_stamp past floor seen;
  entry = record { time = to; now = seen; actor = actor.Time; kind = kind.Jump };
}
