-- The rule of the table, and what each step makes known. Word i is 0 while object i is at home, and else 1.
use Rattle.std.specs.Prelude.{◌≡◌, ◌≢◌, ℕ, ◌<◌, ◌≤◌, true, false, List, [], ◌∷◌, ◌++◌, length, drop, slice_index, slice_index_or, Option, Some, None}
use mathlib.Core.Option.{some}
use lib.ListN.{get_elem?}
use Rattle.atomic_table.specs.Table.{State, Me, Step}
use Rattle.turn_lock.specs.declared.view.Made.{Made}
use Rattle.turn_lock.specs.declared.view.PassView.{PassView}
use Rattle.turn_lock.specs.Bookings.{placed, of_object, made_by, empty, AreBelow}

module _ {V I R : Type 0} (root : V → R) (entries : V → List I) where
  -- the value is the object's: it has the first value's root, and its list is the first one's with these entries after it
  abbrev pub IsObject : List V → ℕ → List (ℕ × I) → V → Type 0
  IsObject first i es y = (u : V) × (get_elem? first i ≡ some u) × (root y ≡ root u) × (entries y ≡ entries u ++ empty es)

  -- these entries are what the pass with that number made, of each object
  abbrev pub IsBooked : List V → (ℕ → List (ℕ × I)) → ℕ → List (Made I) → Type 0
  IsBooked first log number ms = (i : ℕ) (u : V) → get_elem? first i ≡ some u → of_object i ms ≡ made_by number i (length (entries u)) (log i)

  -- the list of an object that is out with a pass
  abbrev pub IsHad : List V → (ℕ → List (ℕ × I)) → ℕ → List I → Type 0
  IsHad first log i had = (u : V) × (get_elem? first i ≡ some u) × (had ≡ entries u ++ empty (log i))

  module _ (first : List V) (words : List ℕ) (next boss : ℕ) (seat_of holder : ℕ → ℕ) (log : ℕ → List (ℕ × I)) (seat : ℕ) (v : PassView V I) where
    -- what one seat's view says
    pub record Knows : Type 0 where
      pub out : (i : ℕ) → v.out ≡ Some i → (holder i ≡ seat) × (slice_index words i ≢ 0) × IsHad first log i v.had
      pub made : (k : ℕ) → v.number ≡ Some k → (v.first ≡ first) × (k < next) × (seat_of k ≡ seat) × IsBooked first log k v.made
      pub keeps : v.keeps ≡ true → (v.first ≡ first) × (seat ≡ boss) × (v.next ≡ next) × (length v.known ≤ next)
      pub known : v.keeps ≡ true → (k : ℕ) → k < length v.known → (seat_of k ≡ seat) × IsBooked first log k (slice_index_or v.known k [])

  -- the rule: each free object is at home, with the list that the log gives it, and each taken one is out with one pass
  pub record Kept (s : State (Option V) (PassView V I)) : Type 0 where
    pub first : List V
    pub next : ℕ
    pub boss : ℕ
    pub seat_of : ℕ → ℕ
    pub holder : ℕ → ℕ
    pub log : ℕ → List (ℕ × I)
    pub wide : length s.words ≡ length first
    pub deep : length s.homes ≡ length first
    pub home : (i : ℕ) → i < length first → slice_index s.words i ≡ 0 → (y : V) × (get_elem? s.homes i ≡ some (some (Some y))) × IsObject first i (log i) y
    pub makers : (i : ℕ) → AreBelow next (log i)
    pub away : (i : ℕ) → i < length first → slice_index s.words i ≢ 0 → (v : PassView V I) × (get_elem? s.views (holder i) ≡ some v) × (v.out ≡ Some i) × (v.number ≢ None)
    pub each_seat : (j : ℕ) (v : PassView V I) → get_elem? s.views j ≡ some v → Knows first s.words next boss seat_of holder log j v

module _ {V I : Type 0} where
  -- the view of the table's own seat, after that many passes, of which these came back
  abbrev pub keeper : List V → ℕ → List (List (Made I)) → PassView V I
  keeper first next known = record { first = first; keeps = true; next = next; known = known; number = None; out = None; had = []; made = [] }

  -- the view of a pass that holds nothing and made these entries
  abbrev pub pass_view : List V → ℕ → List (Made I) → PassView V I
  pass_view first number ms = record { first = first; keeps = false; next = 0; known = []; number = Some number; out = None; had = []; made = ms }

  -- the view of a pass that came back
  abbrev pub spent : PassView V I
  spent = record { first = []; keeps = false; next = 0; known = []; number = None; out = None; had = []; made = [] }

-- a view, with the slots that are out with it
abbrev Sat : Type 0 → Type 0 → Type 0
Sat V I = Me (Option V) (PassView V I)

module _ {V I R : Type 0} (root : V → R) (entries : V → List I) where
  -- what a pass learns when it takes an object: the root is the first value's, and the object has every entry that the pass added to it
  abbrev pub IsTaken : PassView V I → ℕ → V → Type 0
  IsTaken v i y = (u : V) × (es : List (ℕ × I)) × (get_elem? v.first i ≡ some u) × (root y ≡ root u) × (entries y ≡ entries u ++ empty es)
      × ((k : ℕ) → v.number ≡ Some k → of_object i v.made ≡ made_by k i (length (entries u)) es)

  -- the view once the object is taken, with this list
  abbrev pub out_with : PassView V I → ℕ → List I → PassView V I
  out_with v i had = record v { out = Some i; had = had }

  -- the view once the object is back, with this list
  abbrev pub back_from : PassView V I → ℕ → List I → PassView V I
  back_from v i xs = record v { out = None; had = []; made = v.made ++ placed i (length v.had) (drop (length v.had) xs) }

  -- the object was free and is taken, or nothing changed
  abbrev pub takes : Step (Option V) → Sat V I → ℕ → Sat V I → Type 0
  takes st m found w = (found ≡ 0 → (y : V) × (w ≡ (out_with m.0 st.word (entries y), (st.word, Some y) ∷ m.1)) × IsTaken m.0 st.word y)
      × (found ≢ 0 → w ≡ m)

  -- the object is home again
  abbrev pub gives : Step (Option V) → Sat V I → ℕ → Sat V I → Type 0
  gives st m found w = (y : V) → m.1 ≡ (st.word, Some y) ∷ [] → w ≡ (back_from m.0 st.word (entries y), [])

  -- the values at the end: each object's list is the first one with what the passes made after it, each entry made by one of these passes
  pub record AreClosed (first : List V) (passes : List (List (Made I))) (values : List V) : Type 0 where
    pub log : ℕ → List (ℕ × I)
    pub counted : length values ≡ length first
    pub objects : (i : ℕ) (y : V) → get_elem? values i ≡ some y → IsObject root entries first i (log i) y
    pub makers : (i : ℕ) → AreBelow (length passes) (log i)
    pub booked : (k : ℕ) → k < length passes → IsBooked root entries first log k (slice_index_or passes k [])
