-- What a clause reads of a table of the event word and of its seats.
use Rattle.std.specs.Prelude.{◌≡◌, ◌≢◌, ℕ, ◌≤◌, true, false, List, [], length, Option, Some, None}
use mathlib.Core.Option.{some}
use lib.ListN.{get_elem?}
use Rattle.atomic_table.specs.Seated.{TableId}
use Rattle.atomic_table.specs.declared.shared.Seat.{Seat}
use Rattle.sleep_model.specs.declared.word.EventNow.{EventNow}
use Rattle.sleep_model.specs.Sources.{most_entries}
use Rattle.event_word.specs.declared.view.WordView.{WordView}
use Rattle.event_word.specs.Steps.{MadeStep}

-- a seat at a table of the event word
abbrev pub WordToken : Type 0
WordToken = Seat (Unit {0}) WordView

-- the source's number
abbrev pub number_of : WordToken → Option ℕ
number_of t = t.me.0.number

-- the steps that a seat made, the newest first
abbrev pub made_of : WordToken → List MadeStep
made_of t = t.me.0.made

-- the words that it looked at, the newest first
abbrev pub looked_of : WordToken → List EventNow
looked_of t = t.me.0.looked

-- the least position that the word can have
abbrev pub floor_of : WordToken → ℕ
floor_of t = t.me.0.floor

-- a source's seat
pub record IsSourceSeat (t : WordToken) : Type 0 where
  pub plain : t.me.0.keeps ≡ false
  pub numbered : number_of t ≢ None
  pub empty : t.me.1 ≡ []
  pub short : length (made_of t) ≤ most_entries

-- the seat that only looks
pub record IsLook (t : WordToken) : Type 0 where
  pub keeps : t.me.0.keeps ≡ true
  pub unnumbered : number_of t ≡ None
  pub empty : t.me.1 ≡ []

-- no seat came back to it yet
pub record IsUnused (t : WordToken) : Type 0 where
  pub known : t.me.0.known ≡ []
  pub heard : t.me.0.heard ≡ []

-- a seat that did nothing yet
pub record IsUntouched (t : WordToken) : Type 0 where
  pub made : made_of t ≡ []
  pub looked : looked_of t ≡ []
  pub floor : floor_of t ≡ 0

-- how many sources the table of this seat has, which only looks
abbrev pub source_count : WordToken → ℕ
source_count look = look.me.0.next

-- the seat of the source with this number, at that table
abbrev pub IsSeatOf : TableId → ℕ → WordToken → Type 0
IsSeatOf table_id number t = (t.table_id ≡ table_id) × (number_of t ≡ Some number)

-- the seats of all sources of the table of the seat that only looks, each at the index of its number
pub record AreAllSeats (look : WordToken) (ts : List WordToken) : Type 0 where
  pub counted : length ts ≡ source_count look
  pub each_is : (k : ℕ) (t : WordToken) → get_elem? ts k ≡ some t → IsSeatOf look.table_id k t

-- the same, and none of them did anything yet
pub record AreNew (look : WordToken) (ts : List WordToken) : Type 0 where
  pub all_are : AreAllSeats look ts
  pub untouched : (k : ℕ) (t : WordToken) → get_elem? ts k ≡ some t → IsUntouched t
