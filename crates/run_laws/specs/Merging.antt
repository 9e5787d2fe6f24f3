-- When a journal and the sources' histories merge to a legal log (own: Linux keeps no such log).
use Rattle.std.specs.Prelude.{◌≡◌, ◌+◌, ℕ, true, false, nat_le, List, length, map, None}
use Rattle.std.specs.List.{list_all, range_with_len}
use Rattle.sleep_model.specs.declared.entry.Actor.{Actor}
use Rattle.sleep_model.specs.declared.entry.JournalEntry.{JournalEntry}
use Rattle.sleep_model.specs.declared.entry.SourceEntry.{SourceEntry}
use Rattle.sleep_model.specs.declared.log.Log.{Log}
use Rattle.sleep_model.specs.declared.log.LogEnd.TheVariants.{Finished, Stuck}
use Rattle.sleep_model.specs.declared.log.Stats.{Stats}
use Rattle.sleep_model.specs.declared.machine.Machine.{Machine}
use Rattle.sleep_model.specs.Due.{have_all_exited}
use Rattle.sleep_model.specs.Legal.{JournalPart, IsLegalLog, IsFinishedLog, IsStuckLog, is_finished, is_idle, next_time, waiting}
use Rattle.sleep_model.specs.Merge.{IsFit, merge}
use Rattle.sleep_model.specs.Numbers.{time_of}
use Rattle.sleep_model.specs.Sources.{most_entries, stats_at}
use Rattle.run_laws.specs.Apart.{AreJumps, AreActorSteps, IsSource, are_of, calls_after, is_inside, is_journals, last_word, own_entries, past_of, source_past}

-- each list has only its own entries, one history a source of the machine, autosleep last, none longer than its room; and they fit
pub record AreLists (m : Machine) (journal : List JournalEntry) (histories : List (List SourceEntry)) : Type 0 where
  pub kept : list_all is_journals journal ≡ true
  pub sourced : are_of 0 histories ≡ true
  pub count : length histories ≡ length m.sources + 1
  pub short : list_all (λ history. nat_le (length history) most_entries) histories ≡ true
  pub fit : IsFit m journal histories

-- the journal, each source, each actor by its own entries, and each jump is legal by itself
pub record AreLegalApart
    (m : Machine) (journal : List JournalEntry) (histories : List (List SourceEntry)) (own : Actor → List JournalEntry)
    : Type 0 where
  pub of_journal : JournalPart m (past_of journal)
  pub of_sources : (s : ℕ) → IsSource (source_past histories s)
  pub of_actors : (who : Actor) → AreActorSteps who (λ k. calls_after m who k (past_of journal))
      (is_inside (length m.sources + 1) (source_past histories) who) (past_of (own who))
  pub of_jumps : AreJumps m (past_of journal) (source_past histories)

-- the statistics of each history at the journal's time, autosleep last
abbrev pub stats_apart : Machine → List JournalEntry → List (List SourceEntry) → List Stats
stats_apart m journal histories =
    map (λ s. stats_at (source_past histories s) (time_of (past_of journal)))
    (range_with_len 0 (length m.sources + 1))

-- a log has the merge of these as its entries, and their statistics
pub record IsMergeOf (m : Machine) (journal : List JournalEntry) (histories : List (List SourceEntry)) (log : Log)
    : Type 0 where
  pub entries : log.entries ≡ merge journal histories
  pub stats : log.stats ≡ stats_apart m journal histories

-- the run is over, by the journal, the histories and the last word
pub record IsFinishedApart (m : Machine) (journal : List JournalEntry) (histories : List (List SourceEntry)) (log : Log)
    : Type 0 where
  pub says : log.end ≡ Finished
  pub finished : is_finished m (past_of journal) (source_past histories) (last_word journal histories) ≡ true

-- nobody goes on, by the journal, the histories and the last word
pub record IsStuckApart (m : Machine) (journal : List JournalEntry) (histories : List (List SourceEntry)) (log : Log)
    : Type 0 where
  pub says : log.end ≡ Stuck (waiting m (past_of journal) (last_word journal histories))
  pub left : have_all_exited m (past_of journal) ≡ false
  pub idle : is_idle m (past_of journal) (source_past histories) (last_word journal histories) ≡ true
  pub timeless : next_time m (past_of journal) (source_past histories) ≡ None

-- lists that fit, each legal by itself, merge to a legal log
abbrev pub MergesToLegal : Type 0
MergesToLegal =
    (m : Machine) (journal : List JournalEntry) (histories : List (List SourceEntry)) (log : Log)
    → AreLists m journal histories → AreLegalApart m journal histories (λ who. own_entries who journal histories)
    → IsMergeOf m journal histories log → IsLegalLog m log

-- and to a finished one if the lists are at such an end
abbrev pub MergesToFinished : Type 0
MergesToFinished =
    (m : Machine) (journal : List JournalEntry) (histories : List (List SourceEntry)) (log : Log)
    → AreLists m journal histories → IsMergeOf m journal histories log → IsFinishedApart m journal histories log
    → IsFinishedLog m log

-- or a stuck one
abbrev pub MergesToStuck : Type 0
MergesToStuck =
    (m : Machine) (journal : List JournalEntry) (histories : List (List SourceEntry)) (log : Log)
    → AreLists m journal histories → IsMergeOf m journal histories log → IsStuckApart m journal histories log
    → IsStuckLog m log
