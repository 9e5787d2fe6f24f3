-- The entries of a journal.
use Rattle.std.specs.Prelude.{List, [], ◌∷◌}
use Rattle.sleep_model.specs.declared.entry.Entry.{Entry}
use Rattle.sleep_model.specs.declared.entry.JournalEntry.{JournalEntry}

-- the entries without their stamps
abbrev pub entries : List JournalEntry → List Entry
entries [] = []
entries (j ∷ past) = j.entry ∷ entries past
