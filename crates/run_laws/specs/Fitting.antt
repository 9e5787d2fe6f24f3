-- When a journal and the sources' histories fit together, by what each list, actor, step, look and jump shows by itself (own).
use Rattle.std.specs.Prelude.{◌≡◌, ◌+◌, ◌==◌, ℕ, zero, suc, Bool, true, ◌&&◌, ◌||◌, not, nat_le, nat_lt, List, [], ◌∷◌, length, map, filter}
use Rattle.std.specs.List.{list_all, list_any}
use Rattle.sleep_model.specs.declared.word.EventNow.{EventNow}
use Rattle.sleep_model.specs.declared.entry.Actor.{Actor}
use Rattle.sleep_model.specs.declared.entry.JournalEntry.{JournalEntry}
use Rattle.sleep_model.specs.declared.entry.SourceEntry.{SourceEntry}
use Rattle.sleep_model.specs.declared.log.Log.{Log}
use Rattle.sleep_model.specs.declared.machine.Machine.{Machine}
use Rattle.sleep_model.specs.Legal.{IsFinishedLog, IsLegalLog, IsStuckLog}
use Rattle.sleep_model.specs.Merge.{all_entries, is_chained, is_jump, is_word, is_word_step, of_source, next_position, rises}
use Rattle.sleep_model.specs.Numbers.{after_step, word_step}
use Rattle.sleep_model.specs.EntryClasses.{class_of}
use Rattle.sleep_model.specs.Sources.{most_entries}
use Rattle.sleep_model.specs.Word.{position}
use Rattle.run_laws.specs.Apart.{are_of, is_journals, word_steps}
use Rattle.run_laws.specs.Merging.{AreLegalApart, AreLists, IsFinishedApart, IsMergeOf, IsStuckApart}
use Rattle.run_laws.specs.Owned.{IsOwnList}

-- ---- the word

-- the word before any step
abbrev pub no_steps : EventNow
no_steps = record { inpr = 0; count = 0; hard = 0 }

-- the word after the first n of these steps, from that word
abbrev pub word_from : EventNow → ℕ → List JournalEntry → EventNow
word_from word zero steps = word
word_from word (suc n) [] = word
word_from word (suc n) (e ∷ steps) = word_from (after_step (word_step e.entry.kind) word) n steps

-- the steps have these positions, each once, from number n on
abbrev pub are_counted : ℕ → List JournalEntry → Bool
are_counted n [] = true
are_counted n (e ∷ steps) = (e.stamp.pos == n) && are_counted (suc n) steps

-- an entry that is no step carries the word that these steps leave, up to the number that its position says
abbrev pub is_look : List JournalEntry → JournalEntry → Bool
is_look steps e =
    is_word_step e
    || (nat_le e.stamp.pos (length steps) && is_word e.entry.now (word_from no_steps e.stamp.pos steps)
    && (e.stamp.pos == position e.entry.now))

-- ---- the time

-- an entry that is a jump of time
abbrev pub jumps : JournalEntry → Bool
jumps e = is_jump (class_of e.entry.kind)

-- jumps that raise the time and have rising ticks, after these
abbrev pub are_raised : ℕ → ℕ → List JournalEntry → Bool
are_raised time tick [] = true
are_raised time tick (e ∷ rest) =
    nat_lt time e.entry.time && nat_lt tick e.stamp.tick && are_raised e.entry.time e.stamp.tick rest

-- an entry is before a jump by position, tick and time alike
abbrev pub is_earlier : JournalEntry → JournalEntry → Bool
is_earlier e jump =
    nat_le (next_position e) jump.stamp.pos && nat_lt e.stamp.tick jump.stamp.tick
    && nat_lt e.entry.time jump.entry.time

-- an entry is after a jump by position, tick and time alike
abbrev pub is_after_jump : JournalEntry → JournalEntry → Bool
is_after_jump e jump =
    nat_le jump.stamp.pos e.stamp.pos && nat_lt jump.stamp.tick e.stamp.tick
    && nat_le jump.entry.time e.entry.time

-- an entry that is no jump comes before or after the other, if that is a jump
abbrev pub is_ordered : JournalEntry → JournalEntry → Bool
is_ordered e other = jumps e || not (jumps other) || is_earlier e other || is_after_jump e other

-- an entry that is no jump has the time of one of these jumps, or none has been
abbrev pub has_time : List JournalEntry → JournalEntry → Bool
has_time entries e =
    jumps e || (e.entry.time == 0) || list_any (λ other. jumps other && (other.entry.time == e.entry.time)) entries

-- ---- all of it

-- each list has only its own entries and rises, and so has what each actor made; the steps of the word have positions without a gap and
-- chain, each look saw a word between two of them, and each entry has its tick and its time to each jump
pub record FitApart
    (m : Machine) (journal : List JournalEntry) (histories : List (List SourceEntry)) (own : Actor → List JournalEntry)
    : Type 0 where
  pub kept : list_all is_journals journal ≡ true
  pub sourced : are_of 0 histories ≡ true
  pub count : length histories ≡ length m.sources + 1
  pub short : list_all (λ history. nat_le (length history) most_entries) histories ≡ true
  pub journal_rises : rises journal ≡ true
  pub histories_rise : list_all (λ history. rises (map of_source history)) histories ≡ true
  pub actors : (who : Actor) → IsOwnList m who (own who) journal histories
  pub counted : are_counted 0 (word_steps journal histories) ≡ true
  pub chained : is_chained no_steps (word_steps journal histories) ≡ true
  pub looks : list_all (is_look (word_steps journal histories)) (all_entries journal histories) ≡ true
  pub ticks : list_all (λ e. nat_lt 0 e.stamp.tick) (all_entries journal histories) ≡ true
  pub raised : are_raised 0 0 (filter jumps journal) ≡ true
  pub sides : list_all (λ e. list_all (is_ordered e) (all_entries journal histories)) (all_entries journal histories)
      ≡ true
  pub times : list_all (has_time (all_entries journal histories)) (all_entries journal histories) ≡ true

-- lists that fit by themselves fit together
abbrev pub FitsTogether : Type 0
FitsTogether =
    (m : Machine) (journal : List JournalEntry) (histories : List (List SourceEntry)) (own : Actor → List JournalEntry)
    → FitApart m journal histories own → AreLists m journal histories

-- the lists of all, which fit and are legal by themselves, merge to a legal log; and to a finished or stuck one if they are at such an end
abbrev pub ListsMerge : Type 0
ListsMerge =
    (m : Machine) (journal : List JournalEntry) (histories : List (List SourceEntry)) (own : Actor → List JournalEntry)
    (log : Log) → FitApart m journal histories own → AreLegalApart m journal histories own
    → IsMergeOf m journal histories log
    → IsLegalLog m log × (IsFinishedApart m journal histories log → IsFinishedLog m log)
    × (IsStuckApart m journal histories log → IsStuckLog m log)
