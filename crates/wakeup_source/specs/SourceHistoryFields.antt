-- What the fields of a source's history are.
use Rattle.wakeup_source.specs.declared.source_history.SourceHistory.TheInside.{Inside}
use Rattle.wakeup_source.specs.SourceHistories.{SourceHistoryState}
use Rattle.wakeup_source.specs.Tallies.{IsTallied}

-- the history as contracts see it
abbrev pub source_history_view : Inside → SourceHistoryState
source_history_view b = record { source = record { id = b.id; past = b.entries.past; floor = b.floor }; room = b.entries.room }

-- what is counted is of the entries
abbrev pub IsSourceHistory : Inside → Type 0
IsSourceHistory b = IsTallied b.tally b.entries.past
