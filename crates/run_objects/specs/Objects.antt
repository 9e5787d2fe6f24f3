-- What a machine and a wakeup source have besides their seats at the table of the event word, as contracts see them.
use Rattle.std.specs.Prelude.{◌≡◌, ◌≤◌, ℕ, List, [], ◌∷◌, map, Some, None}
use mathlib.Core.Option.{some}
use lib.ListN.{get_elem?}
use Rattle.event_word.specs.Seats.{WordToken, IsLook, IsSourceSeat, IsUntouched, IsUnused, made_of, looked_of, floor_of, number_of}
use Rattle.wakeup_source.specs.Called.{SourceView, viewed_source}
use Rattle.wakeup_source.specs.SourceStates.{IsSettled, SourceState, new_source}
use Rattle.sleep_core.specs.Cores.{CoreState}
use Rattle.core_history.specs.Histories.{last_stamp}
use Rattle.run_laws.specs.Seated.{StampsAreSeen, IsFresh, IsSeated}

-- a wakeup source, and its seat (struct wakeup_source, combined_event_count)
pub record SeatedSourceState : Type 0 where
  pub source : SourceState
  pub seat : WordToken

-- the core, and the seat by which it looks at the event word (combined_event_count)
pub record SeatedCoreState : Type 0 where
  pub core : CoreState
  pub seat : WordToken

-- between calls the seat is the source's, its steps and looks are those of the source's history, and the source last knew the tick of its
-- newest entry (wakeup_source_activate)
pub record IsSeatedSource (s : SeatedSourceState) : Type 0 where
  pub seat : IsSourceSeat s.seat
  pub number : number_of s.seat ≡ Some s.source.id
  pub seated : IsSeated (made_of s.seat) (looked_of s.seat) s.source.past
  pub settled : IsSettled s.source
  pub fresh : IsFresh s.source

-- the seat only looks, it looked at each word of the journal, and knows the newest position there (pm_wakeup_pending)
pub record IsSeatedCore (s : SeatedCoreState) : Type 0 where
  pub seat : IsLook s.seat
  pub unused : IsUnused s.seat
  pub seen : StampsAreSeen (looked_of s.seat) s.core.past
  pub low : (last_stamp s.core.past).pos ≤ floor_of s.seat

-- what a source's seat makes known of the word, and the source (combined_event_count)
abbrev pub viewed_source_of : SeatedSourceState → SourceView
viewed_source_of s = viewed_source None (Some (made_of s.seat)) (Some (looked_of s.seat)) (floor_of s.seat) s.source

-- the sources without their seats
abbrev pub sources_of : List SeatedSourceState → List SourceState
sources_of sources = map (λ s. s.source) sources

-- the seats of sources
abbrev pub seats_of : List SeatedSourceState → List WordToken
seats_of sources = map (λ s. s.seat) sources

-- each source was never called, and has the number of its index (wakeup_source_create)
abbrev pub AreUncalled : List SeatedSourceState → Type 0
AreUncalled sources = (k : ℕ) (s : SeatedSourceState) → get_elem? sources k ≡ some s → s.source ≡ new_source k

-- the seat at each index has that number, and did nothing yet (wakeup_source_create)
abbrev pub AreFirst : List WordToken → Type 0
AreFirst seats = (k : ℕ) (t : WordToken) → get_elem? seats k ≡ some t → (number_of t ≡ Some k) × IsUntouched t

-- each source has its seat (wakeup_source_activate)
abbrev pub SourcesInvariant : List SeatedSourceState → Type 0
SourcesInvariant [] = Unit {0}
SourcesInvariant (s ∷ rest) = IsSeatedSource s × SourcesInvariant rest
