-- What a source has besides its seat at the table of the event word, and the journal besides the machine's (own).
use Rattle.std.specs.Prelude.{◌≡◌, ◌<◌, ℕ, Bool, true, ◌||◌, List, [], ◌∷◌, length, map, reverse, Some, slice_index_or}
use Rattle.std.specs.List.{list_all, list_any}
use Rattle.sleep_model.specs.declared.word.EventNow.{EventNow}
use Rattle.sleep_model.specs.declared.entry.JournalEntry.{JournalEntry}
use Rattle.sleep_model.specs.declared.entry.SourceEntry.{SourceEntry}
use Rattle.sleep_model.specs.declared.machine.SourceCall.{SourceCall}
use Rattle.sleep_model.specs.Merge.{is_word, is_word_step, of_source}
use Rattle.sleep_model.specs.Word.{position}
use Rattle.event_word.specs.Histories.{AreClosed}
use Rattle.event_word.specs.Looks.{GrewTo}
use Rattle.event_word.specs.Steps.{MadeStep}
use Rattle.wakeup_source.specs.declared.call_by.CallBy.{CallBy}
use Rattle.wakeup_source.specs.Called.{Calls, SourceView}
use Rattle.wakeup_source.specs.SourceStates.{SourceState, unstamped_source}
use Rattle.wakeup_source.specs.Shown.{AreOwnSteps, steps_in}
use Rattle.run_laws.specs.Apart.{is_journals}
use Rattle.run_laws.specs.ClosedOver.{IsClosedOver, has_position}

-- an entry is a step on the word, or carries one of the words that were looked at
abbrev pub sees : List EventNow → JournalEntry → Bool
sees looked e = is_word_step e || list_any (is_word e.entry.now) looked

-- each of the entries does, and is stamped with the position of its word
abbrev pub StampsAreSeen : List EventNow → List JournalEntry → Type 0
StampsAreSeen looked entries = (list_all (sees looked) entries ≡ true) × (list_all has_position entries ≡ true)

-- a seat made the steps of a source's entries, the newest first, and looked at the words of its notes
pub record IsSeated (made : List MadeStep) (looked : List EventNow) (past : List SourceEntry) : Type 0 where
  pub steps : made ≡ steps_in (unstamped_source past)
  pub seen : StampsAreSeen looked (map of_source past)

-- the tick of the newest of these entries, 0 if there is none
abbrev pub newest_tick : List SourceEntry → ℕ
newest_tick [] = 0
newest_tick (e ∷ past) = e.stamp.tick

-- a source between calls last knew the tick of its newest entry
abbrev pub IsFresh : SourceState → Type 0
IsFresh source = source.floor.tick ≡ newest_tick source.past

-- after a call the source has its seat in that state
pub record SeatAgrees (new : SourceView) : Type 0 where
  pub made : List MadeStep
  pub looked : List EventNow
  pub made_is : new.made ≡ Some made
  pub looked_is : new.looked ≡ Some looked
  pub seated : IsSeated made looked new.source.past

-- a call on a source whose bump makes known its seat's steps and looks leaves the seat's those of the source
abbrev pub SeatAgreesAfterCalls : Type 0
SeatAgreesAfterCalls =
    (by : CallBy) (call : SourceCall) (old new : SourceView) (made : List MadeStep) (looked : List EventNow)
    → old.made ≡ Some made → old.looked ≡ Some looked → IsSeated made looked old.source.past → Calls by call old new
    → AreOwnSteps old.made new.made old.source new.source → SeatAgrees new

-- an entry of the journal by the word that the machine's seat looked at last leaves all of the journal seen
abbrev pub WatchAgrees : Type 0
WatchAgrees =
    (looked new : List EventNow) (journal : List JournalEntry) (e : JournalEntry) → StampsAreSeen looked journal
    → GrewTo e.entry.now (Some looked) (Some new) → e.stamp.pos ≡ position e.entry.now → StampsAreSeen new (e ∷ journal)

-- at the closed table each source has its seat's steps and one list of looks, and so has the journal
pub record AreSeated
    (made : List (List MadeStep)) (looked : List (List EventNow)) (answer : EventNow)
    (journal : List JournalEntry) (histories : List (List SourceEntry)) : Type 0 where
  pub closed : AreClosed made looked answer
  pub count : length made ≡ length histories
  pub kept : list_all is_journals journal ≡ true
  pub machine : ℕ
  pub watched : StampsAreSeen (slice_index_or looked machine []) journal
  pub seat : ℕ → ℕ
  pub seated : (s : ℕ) → s < length histories
      → IsSeated (slice_index_or made s []) (slice_index_or looked (seat s) []) (reverse (slice_index_or histories s []))

-- so the table has all steps
abbrev pub SeatsCoverTable : Type 0
SeatsCoverTable =
    (made : List (List MadeStep)) (looked : List (List EventNow)) (answer : EventNow)
    (journal : List JournalEntry) (histories : List (List SourceEntry))
    → AreSeated made looked answer journal histories → IsClosedOver made looked answer journal histories
