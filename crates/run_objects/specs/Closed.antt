-- What a closed table of the event word says of the journal and the histories of its seats (own).
use Rattle.std.specs.Prelude.{◌≡◌, true, List, map, reverse}
use Rattle.std.specs.List.{list_any}
use Rattle.sleep_model.specs.declared.word.EventNow.{EventNow}
use Rattle.sleep_model.specs.declared.entry.JournalEntry.{JournalEntry}
use Rattle.sleep_model.specs.declared.entry.SourceEntry.{SourceEntry}
use Rattle.sleep_model.specs.Merge.{is_word}
use Rattle.event_word.specs.Steps.{MadeStep}
use Rattle.run_laws.specs.ClosedOver.{IsClosedOver, was_seen}
use Rattle.run_objects.specs.Objects.{SeatedSourceState}

-- the history of each source, the oldest entry first
abbrev pub histories_of : List SeatedSourceState → List (List SourceEntry)
histories_of sources = map (λ s. reverse s.source.past) sources

-- all steps of all sources are made, and each of these words was seen by one of the seats
pub record IsClosedTable (looked : List EventNow) (journal : List JournalEntry) (histories : List (List SourceEntry)) : Type 0 where
  pub steps : List (List MadeStep)
  pub looks : List (List EventNow)
  pub answer : EventNow
  pub closed_over : IsClosedOver steps looks answer journal histories
  pub seen : (now : EventNow) → list_any (is_word now) looked ≡ true → was_seen looks now ≡ true
