-- What never changes in an object of the world, and what its list has.
use Rattle.std.specs.Prelude.{ℕ, List, [], ◌∷◌, ◌++◌, Option, Some, None}
use Rattle.sleep_model.specs.declared.entry.JournalEntry.{JournalEntry}
use Rattle.sleep_model.specs.declared.machine.Machine.{Machine}
use Rattle.atomic_table.specs.Seated.{TableId}
use Rattle.event_word.specs.Seats.{source_count}
use Rattle.run_laws.specs.Passes.{Noted}
use Rattle.run_objects.specs.Objects.{SeatedCoreState, SeatedSourceState}

-- what never changes in an object: the machine, if it is that; the table of its seat; the source's number, or how many sources there are;
-- and the burst's moment, if it is a source
pub record WorldRoot : Type 0 where
  pub machine : Option Machine
  pub table : TableId
  pub number : ℕ
  pub moment : ℕ

-- the machine's
abbrev pub machine_root : SeatedCoreState → WorldRoot
machine_root s = record { machine = Some s.core.machine; table = s.seat.table_id; number = source_count s.seat; moment = 0 }

-- a source's
abbrev pub source_root : SeatedSourceState → ℕ → WorldRoot
source_root s moment = record { machine = None; table = s.seat.table_id; number = s.source.id; moment = moment }

-- the newest of these entries first, each with those after it and those before all, the oldest first
abbrev pub notes_on : List JournalEntry → List JournalEntry → List Noted
notes_on past [] = []
notes_on past (e ∷ added) = notes_on past added ++ record { entry = e; past = added ++ past } ∷ []
