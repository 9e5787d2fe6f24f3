-- What the closed table of the event word says of the journal and the histories whose makers looked and stepped there (own).
use Rattle.std.specs.Prelude.{◌≡◌, ℕ, ◌<◌, Bool, true, ◌||◌, ◌==◌, nat_le, List, [], length, map, slice_index_or}
use Rattle.std.specs.List.{list_all, list_any}
use Rattle.sleep_model.specs.declared.word.EventNow.{EventNow}
use Rattle.sleep_model.specs.declared.entry.JournalEntry.{JournalEntry}
use Rattle.sleep_model.specs.declared.entry.SourceEntry.{SourceEntry}
use Rattle.sleep_model.specs.Merge.{all_entries, is_chained, is_word, is_word_step, of_source, next_position}
use Rattle.sleep_model.specs.Word.{position}
use Rattle.event_word.specs.Histories.{AreClosed}
use Rattle.event_word.specs.Steps.{MadeStep}
use Rattle.wakeup_source.specs.Shown.{steps_in}
use Rattle.run_laws.specs.Apart.{is_journals, last_word, source_past}
use Rattle.run_laws.specs.Apart as apart
use Rattle.run_laws.specs.Fitting.{are_counted, is_look, no_steps}

-- one of the seats looked at the word
abbrev pub was_seen : List (List EventNow) → EventNow → Bool
was_seen looked now = list_any (λ words. list_any (is_word now) words) looked

-- an entry that is no step carries a word that one of the seats looked at
abbrev pub is_looked : List (List EventNow) → JournalEntry → Bool
is_looked looked e = is_word_step e || was_seen looked e.entry.now

-- an entry's stamp has the position of the word that it carries
abbrev pub has_position : JournalEntry → Bool
has_position e = e.stamp.pos == position e.entry.now

-- the seats of a closed table made the steps of the histories, source by source, and looked at each word that another entry carries
pub record IsClosedOver
    (made : List (List MadeStep)) (looked : List (List EventNow)) (answer : EventNow)
    (journal : List JournalEntry) (histories : List (List SourceEntry)) : Type 0 where
  pub closed : AreClosed made looked answer
  pub count : length made ≡ length histories
  pub each_made : (s : ℕ) → s < length histories → slice_index_or made s [] ≡ steps_in (source_past histories s)
  pub kept : list_all is_journals journal ≡ true
  pub looks : list_all (is_looked looked) (all_entries journal histories) ≡ true
  pub positions : list_all has_position (all_entries journal histories) ≡ true

-- the steps have positions without a gap and chain, each look saw a word between two of them, and that is the last word
pub record IsInLine (answer : EventNow) (journal : List JournalEntry) (histories : List (List SourceEntry)) : Type 0 where
  pub counted : are_counted 0 (apart.word_steps journal histories) ≡ true
  pub chained : is_chained no_steps (apart.word_steps journal histories) ≡ true
  pub looks : list_all (is_look (apart.word_steps journal histories)) (all_entries journal histories) ≡ true
  pub last : last_word journal histories ≡ answer

-- the word's closed table has the steps of all histories
abbrev pub TableCovers : Type 0
TableCovers =
    (made : List (List MadeStep)) (looked : List (List EventNow)) (answer : EventNow)
    (journal : List JournalEntry) (histories : List (List SourceEntry))
    → IsClosedOver made looked answer journal histories → IsInLine answer journal histories

-- a seat looked at the word, and no step of a history leaves a later position
pub record IsSeenLast (looked : List (List EventNow)) (histories : List (List SourceEntry)) (now : EventNow) : Type 0 where
  pub seen : was_seen looked now ≡ true
  pub behind : (s : ℕ)
      → list_all (λ e. nat_le (next_position e) (position now)) (map of_source (slice_index_or histories s [])) ≡ true

-- if no source's floor is above a look, the look saw the last word
abbrev pub LooksLast : Type 0
LooksLast =
    (made : List (List MadeStep)) (looked : List (List EventNow)) (answer now : EventNow)
    (journal : List JournalEntry) (histories : List (List SourceEntry))
    → IsClosedOver made looked answer journal histories → IsSeenLast looked histories now → now ≡ answer
