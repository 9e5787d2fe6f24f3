-- Logs taken apart into a journal and the sources' histories, each entry with its stamp.
use Rattle.std.specs.Prelude.{◌≡◌, ◌+◌, ℕ, suc, List, [], ◌∷◌, length, map, filter}
use Rattle.std.specs.List.{range_with_len}
use Rattle.sleep_model.specs.declared.entry.Actor.TheVariants as actor
use Rattle.sleep_model.specs.declared.entry.Entry.{Entry}
use Rattle.sleep_model.specs.declared.entry.JournalEntry.{JournalEntry}
use Rattle.sleep_model.specs.declared.entry.Kind.TheVariants as kind
use Rattle.sleep_model.specs.declared.entry.SourceEntry.{SourceEntry}
use Rattle.sleep_model.specs.declared.machine.Machine.{Machine}
use Rattle.sleep_model.specs.Merge.{IsFit, merge}
use Rattle.sleep_model.specs.EntryClasses.{is_in_journal, class_of}
use Rattle.sleep_model.specs.Sources.{is_of}
use Rattle.sleep_model.specs.Word.{position}
use Rattle.law_trials.specs.Terms.{entry, word}

-- an entry with that tick, and with the position of the word that it carries
abbrev pub ticked : ℕ → Entry → JournalEntry
ticked tick e = record { stamp = record { pos = position e.now; tick = tick }; entry = e }

-- the entries as one worker makes them: each knows the one before it, so that ticks rise by one
abbrev pub all_ticked : ℕ → List Entry → List JournalEntry
all_ticked tick [] = []
all_ticked tick (e ∷ after_idle_round) = ticked tick e ∷ all_ticked (suc tick) after_idle_round

-- the same entry in a source's history
abbrev pub in_history : JournalEntry → SourceEntry
in_history e = record { stamp = e.stamp; entry = e.entry }

-- the journal among these entries
abbrev pub journal_among : List JournalEntry → List JournalEntry
journal_among entries = filter (λ e. is_in_journal (class_of e.entry.kind)) entries

-- the history of a source among them
abbrev pub history_among : ℕ → List JournalEntry → List SourceEntry
history_among s entries = map in_history (filter (λ e. is_of s (class_of e.entry.kind)) entries)

-- the histories of all sources of a machine, autosleep last
abbrev pub histories_among : Machine → List JournalEntry → List (List SourceEntry)
histories_among m entries = map (λ s. history_among s entries) (range_with_len 0 (length m.sources + 1))

-- a journal and histories fit together, and are merged to these entries
pub record Merges (m : Machine) (entries : List JournalEntry) (log : List Entry) : Type 0 where
  pub fit : IsFit m (journal_among entries) (histories_among m entries)
  pub merged : merge (journal_among entries) (histories_among m entries) ≡ log

-- the entries of a log, taken apart as one worker makes them, are merged to the log
abbrev pub MergesAgain : Machine → List Entry → Type 0
MergesAgain m entries = Merges m (all_ticked 1 entries) entries

-- the entries of two workers that know nothing of each other, as they made them: ticks are each actor's and each list's own
abbrev pub two_workers : List JournalEntry
two_workers =
    ticked 1 (entry 0 (word 0 0 0) (actor.Script 0) (kind.Post 0))
    ∷ ticked 2 (entry 0 (word 1 0 0) (actor.Script 0) kind.Exit)
    ∷ ticked 1 (entry 0 (word 0 0 0) (actor.Script 1) (kind.Awake 0))
    ∷ ticked 2 (entry 0 (word 0 0 0) (actor.Script 1) (kind.Start 0))
    ∷ ticked 3 (entry 0 (word 1 0 0) (actor.Script 1) (kind.Relax 0))
    ∷ ticked 4 (entry 0 (word 1 0 0) (actor.Script 1) (kind.Finish 0))
    ∷ ticked 5 (entry 0 (word 0 1 0) (actor.Script 1) kind.Exit)
    ∷ []
