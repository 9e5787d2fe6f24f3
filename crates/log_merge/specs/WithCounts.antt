-- The places of sources' entries in a journal (own: Linux keeps no such log).
use Rattle.std.specs.Prelude.{ℕ, suc, List, [], ◌∷◌, if◌then◌else◌}
use Rattle.sleep_model.specs.declared.entry.JournalEntry.{JournalEntry}
use Rattle.sleep_model.specs.declared.entry_list.OtherEntry.{OtherEntry}
use Rattle.sleep_model.specs.Merge.{precedes}

-- if n of a journal are passed: how many are once all that come before an entry of a source are passed, and what is left of it
abbrev pub pass : JournalEntry → ℕ → List JournalEntry → ℕ × List JournalEntry
pass other n [] = (n, [])
pass other n (e ∷ rest) = if precedes other e then (n, e ∷ rest) else pass other (suc n) rest

-- if n of a journal are passed: the entries of sources, each with the number of the journal's before it
abbrev pub with_counts : ℕ → List JournalEntry → List JournalEntry → List OtherEntry
with_counts n journal [] = []
with_counts n journal (other ∷ others) =
    record { before = (pass other n journal).0; entry = other.entry }
    ∷ with_counts (pass other n journal).0 (pass other n journal).1 others
