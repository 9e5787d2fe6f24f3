-- The laws of sleep, each over every legal log of every machine.
use Rattle.std.specs.Prelude.{List, ◌∷◌}
use Rattle.sleep_model.specs.declared.entry.Entry.{Entry}
use Rattle.sleep_model.specs.declared.machine.Machine.{Machine}
use Rattle.sleep_model.specs.Legal.{IsLegal, JournalPart}

-- the law holds of every legal list of entries, of whatever machine
abbrev pub HoldsOfAll : (Machine → List Entry → Type 0) → Type 0
HoldsOfAll law = (m : Machine) (past : List Entry) → IsLegal m past → law m past

-- the law holds at each entry of every legal journal, of whatever machine
abbrev pub HoldsAtEntries : (Machine → List Entry → Entry → Type 0) → Type 0
HoldsAtEntries law = (m : Machine) (past : List Entry) (e : Entry) → JournalPart m (e ∷ past) → law m past e

-- the law holds of every legal journal, of whatever machine
abbrev pub HoldsOfJournals : (Machine → List Entry → Type 0) → Type 0
HoldsOfJournals law = (m : Machine) (past : List Entry) → JournalPart m past → law m past
