-- The law of the room of a source.
use Rattle.std.specs.Prelude.{ℕ, ◌≤◌, List, length}
use Rattle.sleep_model.specs.declared.entry.Entry.{Entry}
use Rattle.sleep_model.specs.declared.machine.Machine.{Machine}
use Rattle.sleep_model.specs.Legal.{IsLegal}
use Rattle.sleep_model.specs.Places.{places}
use Rattle.sleep_model.specs.Sources.{history}

-- in each legal list of entries a source has no more entries than the machine's calls have room for
abbrev pub HistoriesKeep : Type 0
HistoriesKeep =
    (m : Machine) (past : List Entry) → IsLegal m past → (s : ℕ) → length (history s past) ≤ places m s
