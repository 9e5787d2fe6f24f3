-- Worked logs taken apart meet the premises of the laws of the merge.
use Rattle.std.specs.Prelude.{List}
use Rattle.sleep_model.specs.declared.entry.Entry.{Entry}
use Rattle.sleep_model.specs.declared.entry.JournalEntry.{JournalEntry}
use Rattle.sleep_model.specs.declared.machine.Machine.{Machine}
use Rattle.law_trials.specs.MergeTests.{FitTested, LegalTested}
use Rattle.law_trials.specs.Merging.{all_ticked, histories_among, journal_among}

-- these entries fit, and are legal, each by itself
pub record IsApart (m : Machine) (entries : List JournalEntry) : Type 0 where
  pub fit : FitTested m (journal_among entries) (histories_among m entries)
  pub legal : LegalTested m (journal_among entries) (histories_among m entries)

-- so are the entries of a log, as one worker makes them
abbrev pub IsApartAgain : Machine → List Entry → Type 0
IsApartAgain m entries = IsApart m (all_ticked 1 entries)
