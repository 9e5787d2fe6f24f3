-- The history of a source with room reserved, and what is counted of it.
use Rattle.std.specs.Prelude.{◌≤◌, ◌<◌, ◌+◌, ◌-◌, ◌^◌, ℕ, max, List, length}
use Rattle.sleep_model.specs.declared.entry.SourceEntry.{SourceEntry}
use Rattle.sleep_model.specs.declared.machine.SourceCall.{SourceCall}
use Rattle.sleep_model.specs.declared.word.EventNow.{EventNow}
use Rattle.sleep_model.specs.declared.word.WordKind.{WordKind}
use Rattle.sleep_model.specs.Sources.{most_entries}
use Rattle.wakeup_source.specs.declared.call_by.CallBy.{CallBy}
use Rattle.wakeup_source.specs.SourceStates.{SourceState, unstamped_source, latest, with_note, with_step}

-- the entries so far, the newest first, and how many more have reserved room
pub record HistoryRoom : Type 0 where
  pub past : List SourceEntry
  pub room : ℕ

-- a source, and how many more entries have reserved room
pub record SourceHistoryState : Type 0 where
  pub source : SourceState
  pub room : ℕ

-- after the note of a call that saw that word
abbrev pub after_noting : CallBy → SourceCall → EventNow → SourceHistoryState → SourceHistoryState
after_noting by call seen history_seen = record { source = with_note by call seen history_seen.source; room = history_seen.room - 1 }

-- after a step with that word before it
abbrev pub stepped : CallBy → WordKind → EventNow → SourceHistoryState → SourceHistoryState
stepped by step before history_seen = record { source = with_step by step before history_seen.source; room = history_seen.room - 1 }

-- n more entries of that caller have their room, their ticks and their time (own)
pub record HasRoomFor (n : ℕ) (by : CallBy) (history_seen : SourceHistoryState) : Type 0 where
  pub room : n ≤ history_seen.room
  pub few : length history_seen.source.past + n ≤ most_entries
  pub ticks : max by.floor.tick history_seen.source.floor.tick + n < 2 ^ 64
  pub time : latest (unstamped_source history_seen.source.past) ≤ by.now
  pub small : by.now ≤ 2 ^ 63
