-- What the history's fields are: each is what the definitions read from the journal's entries.
use Rattle.std.specs.Prelude.{◌≡◌, ◌<◌, ◌^◌, length}
use Rattle.sleep_model.specs.Numbers.{time_of}
use Rattle.room_laws.specs.AttemptRoom.{enough}
use Rattle.sleep_state.specs.JournalRooms.{entries}
use Rattle.core_history.specs.declared.history.History.TheInside.{Inside}
use Rattle.core_history.specs.Components.{AreRead}
use Rattle.core_history.specs.Histories.{HistoryState, last_stamp}

-- the history as contracts see it
abbrev pub history_view : Inside → HistoryState
history_view h = record { machine = h.machine.now; past = h.journal.past; room = h.journal.room }

-- each field is what the definitions read from the entries
pub record IsHistory (h : Inside) : Type 0 where
  pub few : length h.machine.now.actors < 2 ^ 32
  pub small : enough h.machine.now < 2 ^ 32
  pub last_is : h.last ≡ last_stamp h.journal.past
  pub time_is : h.time ≡ time_of (entries h.journal.past)
  pub components_are : AreRead h.machine.now (entries h.journal.past) h.components
