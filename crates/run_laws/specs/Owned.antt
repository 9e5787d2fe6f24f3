-- A list that an actor has of its own entries (own).
use Rattle.std.specs.Prelude.{◌≡◌, ◌+◌, ℕ, true, List, [], length, map, filter, slice_index_or}
use Rattle.std.specs.List.{list_all}
use Rattle.sleep_model.specs.declared.entry.Actor.{Actor}
use Rattle.sleep_model.specs.declared.entry.JournalEntry.{JournalEntry}
use Rattle.sleep_model.specs.declared.entry.SourceEntry.{SourceEntry}
use Rattle.sleep_model.specs.declared.machine.Machine.{Machine}
use Rattle.sleep_model.specs.Legal.{is_there}
use Rattle.sleep_model.specs.Merge.{entries_of, of_source, rises}
use Rattle.sleep_model.specs.EntryClasses.{class_of}
use Rattle.sleep_model.specs.Sources.{is_of}
use Rattle.run_laws.specs.Apart.{is_journals, own_entries}

-- an actor has made these entries, in the order of its ticks: the journal's are its entries there, and those of each source its entries in
-- that history
pub record IsOwnList (m : Machine) (who : Actor) (own journal : List JournalEntry) (histories : List (List SourceEntry))
    : Type 0 where
  pub rising : rises own ≡ true
  pub there : list_all (λ e. is_there m (class_of e.entry.kind)) own ≡ true
  pub in_journal : filter is_journals own ≡ entries_of who journal
  pub in_histories : (s : ℕ) → filter (λ e. is_of s (class_of e.entry.kind)) own
      ≡ entries_of who (map of_source (slice_index_or histories s []))

-- such a list is what the journal and the histories have of the actor, in the order of their stamps
abbrev pub OwnListsAreOwnEntries : Type 0
OwnListsAreOwnEntries =
    (m : Machine) (who : Actor) (own journal : List JournalEntry) (histories : List (List SourceEntry))
    → length histories ≡ length m.sources + 1 → IsOwnList m who own journal histories
    → own_entries who journal histories ≡ own
