-- The premises of the laws of the merge as tests that compute: for each actor and each source of the machine.
use Rattle.std.specs.Prelude.{◌≡◌, ◌+◌, ℕ, zero, suc, true, nat_le, nat_lt, List, [], ◌∷◌, length, map, filter}
use Rattle.std.specs.List.{list_all, list_any}
use Rattle.sleep_model.specs.declared.entry.Actor.{Actor}
use Rattle.sleep_model.specs.declared.entry.JournalEntry.{JournalEntry}
use Rattle.sleep_model.specs.declared.entry.SourceEntry.{SourceEntry}
use Rattle.sleep_model.specs.declared.machine.Machine.{Machine}
use Rattle.sleep_model.specs.Legal.{JournalPart}
use Rattle.sleep_model.specs.Merge.{actors_of, all_entries, is_chained, of_source, rises}
use Rattle.sleep_model.specs.Path.{is_same}
use Rattle.sleep_model.specs.Sources.{most_entries}
use Rattle.run_laws.specs.Apart.{AreJumps, AreActorSteps, IsSource, are_of, calls_after, is_inside, is_journals, own_entries, past_of, source_past, word_steps}
use Rattle.run_laws.specs.Fitting.{FitApart, are_counted, are_raised, has_time, is_look, jumps, no_steps, is_ordered}
use Rattle.run_laws.specs.Merging.{AreLegalApart}

-- so for each number below n
abbrev pub Below : (ℕ → Type 0) → ℕ → Type 0
Below P zero = Unit {0}
Below P (suc n) = P n × Below P n

-- so for each of these actors
abbrev pub OfEach : (Actor → Type 0) → List Actor → Type 0
OfEach P [] = Unit {0}
OfEach P (who ∷ after_idle_round) = P who × OfEach P after_idle_round

-- the entries fit, each by itself
pub record FitTested (m : Machine) (journal : List JournalEntry) (histories : List (List SourceEntry)) : Type 0 where
  pub kept : list_all is_journals journal ≡ true
  pub sourced : are_of 0 histories ≡ true
  pub count : length histories ≡ length m.sources + 1
  pub short : list_all (λ history. nat_le (length history) most_entries) histories ≡ true
  pub journal_rises : rises journal ≡ true
  pub histories_rise : list_all (λ history. rises (map of_source history)) histories ≡ true
  pub owned : list_all (λ e. list_any (λ who. is_same e.entry.actor who) (actors_of m)) (all_entries journal histories)
      ≡ true
  pub actors_rise : list_all (λ who. rises (own_entries who journal histories)) (actors_of m) ≡ true
  pub counted : are_counted 0 (word_steps journal histories) ≡ true
  pub chained : is_chained no_steps (word_steps journal histories) ≡ true
  pub looks : list_all (is_look (word_steps journal histories)) (all_entries journal histories) ≡ true
  pub ticks : list_all (λ e. nat_lt 0 e.stamp.tick) (all_entries journal histories) ≡ true
  pub raised : are_raised 0 0 (filter jumps journal) ≡ true
  pub sides : list_all (λ e. list_all (is_ordered e) (all_entries journal histories)) (all_entries journal histories)
      ≡ true
  pub times : list_all (has_time (all_entries journal histories)) (all_entries journal histories) ≡ true

-- the entries are legal, each by itself
pub record LegalTested (m : Machine) (journal : List JournalEntry) (histories : List (List SourceEntry)) : Type 0 where
  pub of_journal : JournalPart m (past_of journal)
  pub of_sources : Below (λ s. IsSource (source_past histories s)) (length histories)
  pub of_actors : OfEach
      (λ who. AreActorSteps who (λ k. calls_after m who k (past_of journal)) (is_inside (length m.sources + 1) (source_past histories) who) (past_of (own_entries who journal histories)))
      (actors_of m)
  pub of_jumps : AreJumps m (past_of journal) (source_past histories)

-- entries that pass the tests meet the premises of the law
abbrev pub TestsShowPremises : Type 0
TestsShowPremises =
    (m : Machine) (journal : List JournalEntry) (histories : List (List SourceEntry)) → FitTested m journal histories
    → LegalTested m journal histories
    → FitApart m journal histories (λ who. own_entries who journal histories)
    × AreLegalApart m journal histories (λ who. own_entries who journal histories)
