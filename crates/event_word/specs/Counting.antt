-- The rule of the table, and what each step shows. The table has one word, and no slots.
use Rattle.std.specs.Prelude.{◌≡◌, ℕ, suc, ◌+◌, ◌<◌, ◌≤◌, true, false, List, [], ◌∷◌, ◌++◌, length, slice_index, slice_index_or, Some, None}
use mathlib.Core.Option.{some}
use lib.ListN.{get_elem?}
use Rattle.atomic_table.specs.Table.{State, Me, Step}
use Rattle.sleep_model.specs.declared.word.EventNow.{EventNow}
use Rattle.sleep_model.specs.declared.word.WordKind.{WordKind}
use Rattle.sleep_model.specs.Sources.{most_entries}
use Rattle.sleep_model.specs.Word.{position}
use Rattle.event_word.specs.declared.view.WordView.{WordView}
use Rattle.event_word.specs.Histories.{SourceStep, word_after, steps_of, AreBelow, AreInTurn, packed, unpacked}
use Rattle.event_word.specs.Histories.{AreSeen, AllSeen, NeverRise, AreInOrder}

module _ (log : List SourceStep) (next boss : ℕ) (seat_of : ℕ → ℕ) (seat : ℕ) (v : WordView) where
  -- what one seat's view says
  pub record Knows : Type 0 where
    pub low : v.floor ≤ length log
    pub looked : AreSeen log v.looked × NeverRise v.floor v.looked
    pub made : (k : ℕ) → v.number ≡ Some k → (k < next) × (seat_of k ≡ seat) × (v.made ≡ steps_of k log)
    pub keeps : v.keeps ≡ true → (seat ≡ boss) × (v.next ≡ next) × (length v.known ≤ next)
    pub known : v.keeps ≡ true → (k : ℕ) → k < length v.known
        → (seat_of k ≡ seat) × (slice_index_or v.known k [] ≡ steps_of k log)
    pub heard : v.keeps ≡ true → AllSeen log v.heard × AreInOrder v.heard

-- the rule: there is one history, which leaves the word; each source's seat has its steps; what a seat saw was there
pub record TableInvariant (s : State (Unit {0}) WordView) : Type 0 where
  pub log : List SourceStep
  pub next : ℕ
  pub boss : ℕ
  pub seat_of : ℕ → ℕ
  pub few : next ≤ 256
  pub wide : length s.words ≡ 1
  pub word : slice_index s.words 0 ≡ packed (word_after log)
  pub makers : AreBelow next log
  pub turns : AreInTurn log
  pub short : (k : ℕ) → length (steps_of k log) ≤ most_entries
  pub each_seat : (j : ℕ) (v : WordView) → get_elem? s.views j ≡ some v → Knows log next boss seat_of j v

-- the first view of the seat that only looks
abbrev pub look_view : WordView
look_view = record { keeps = true; next = 0; known = []; heard = []; number = None; made = []; looked = []; floor = 0 }

-- the same seat, once there is one more source
abbrev pub with_one_source : WordView → WordView
with_one_source v = record v { next = suc v.next }

-- the view of a new source's seat
abbrev pub source_view : ℕ → WordView
source_view number =
    record { keeps = false; next = 0; known = []; heard = []; number = Some number; made = []; looked = []; floor = 0 }

-- the view of the seat that only looks, once a source's seat came back
abbrev pub took_in : WordView → WordView → WordView
took_in v w = record v { known = v.known ++ w.made ∷ []; heard = v.heard ++ w.looked ∷ [] }

-- the view of a seat that came back
abbrev pub spent : WordView
spent = record { keeps = false; next = 0; known = []; heard = []; number = None; made = []; looked = []; floor = 0 }

-- a view, with the slots that are out with it: none
abbrev Sat : Type 0
Sat = Me (Unit {0}) WordView

-- the view after a step, before which that word was found
abbrev pub stepped_by : WordKind → EventNow → WordView → WordView
stepped_by kind word v = record v { made = record { step = kind; before = word } ∷ v.made; floor = position word + 1 }

-- the view after a look at that word
abbrev pub looked_at : EventNow → WordView → WordView
looked_at word v = record v { looked = word ∷ v.looked; floor = position word }

-- the step was made, and the word before it is not older than what the seat knows
abbrev pub steps_by : WordKind → Step (Unit {0}) → Sat → ℕ → Sat → Type 0
steps_by kind st m found w = (m.0.floor ≤ position (unpacked found)) × (w ≡ (stepped_by kind (unpacked found) m.0, m.1))

-- the word was looked at, and is not older than what the seat knows
abbrev pub looks : Step (Unit {0}) → Sat → ℕ → Sat → Type 0
looks st m found w = (m.0.floor ≤ position (unpacked found)) × (w ≡ (looked_at (unpacked found) m.0, m.1))
