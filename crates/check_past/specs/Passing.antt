-- The entries of a log that were passed, and the account of them.
use Rattle.std.specs.Prelude.{◌≡◌, ◌≤◌, ℕ, ◌+◌, true, List, length, reverse, take}
use Rattle.std.specs.List.{list_all}
use Rattle.sleep_model.specs.declared.entry.Entry.{Entry}
use Rattle.sleep_model.specs.declared.machine.Machine.{Machine}
use Rattle.sleep_model.specs.Accepted.{IsAccepted}
use Rattle.sleep_model.specs.Fits.{fits_entry}
use Rattle.sleep_model.specs.Numbers.{after_step, numbers, time_after, time_of, word_step}
use Rattle.sleep_model.specs.EntryClasses.{is_in_journal, journal, class_of}
use Rattle.check_sources.specs.Calling.{callers_after, callers_of}
use Rattle.check_past.specs.declared.past_state.PastState.{PastState}
use Rattle.check_past.specs.JournalStates.{journal_if, state_of}
use Rattle.check_sources.specs.SourceStates.{sources, sources_after}

-- a machine, the entries of a log, the oldest first, and how many of them were passed (own)
pub record Passage : Type 0 where
  pub machine : Machine
  pub entries : List Entry
  pub passed : ℕ

-- the entries that were passed, the newest first (own)
abbrev pub past_of : Passage → List Entry
past_of p = reverse (take p.passed p.entries)

-- those of the journal (own)
abbrev pub journal_of : Passage → List Entry
journal_of p = journal (past_of p)

-- the account is what these entries leave (own)
pub record Holds (m : Machine) (past : List Entry) (k : PastState) : Type 0 where
  pub word : k.word ≡ numbers past
  pub time : k.time ≡ time_of past
  pub state : k.journal ≡ state_of m (journal past)
  pub sources : k.sources ≡ sources (length m.sources + 1) past
  pub calls : k.calls ≡ record { machine = m; state = callers_of m past }

-- the account after one more entry (own)
abbrev pub past_state_after : Machine → Entry → PastState → PastState
past_state_after m e k = record {
  word = after_step (word_step e.kind) k.word;
  time = time_after e.kind e.time k.time;
  journal = journal_if (is_in_journal (class_of e.kind)) m e k.journal;
  sources = sources_after e k.sources;
  calls = record k.calls {
    state = callers_after k.calls.machine e k.journal.attempt.attempts (class_of e.kind) k.calls.state;
  };
}

-- a machine as files spell it, entries that name what it has, of which no more were passed than there are (own)
pub record IsPassage (p : Passage) : Type 0 where
  pub accepted : IsAccepted p.machine
  pub fits : list_all (fits_entry p.machine) p.entries ≡ true
  pub within : p.passed ≤ length p.entries
