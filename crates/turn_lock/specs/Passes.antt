-- What a clause reads of a table, a pass and what a pass holds.
use Rattle.std.specs.Prelude.{◌≡◌, ℕ, ◌<◌, true, false, List, [], ◌∷◌, ◌++◌, length, drop, Option, Some, None}
use mathlib.Core.Option.{some}
use lib.ListN.{get_elem?}
use Rattle.atomic_table.specs.Seated.{TableId}
use Rattle.atomic_table.specs.declared.shared.Seat.{Seat}
use Rattle.turn_lock.specs.declared.view.Made.{Made}
use Rattle.turn_lock.specs.declared.view.PassView.{PassView}
use Rattle.turn_lock.specs.Bookings.{placed}

-- a seat at a table of objects of the type V with entries of the type I
abbrev pub LockToken : Type 0 → Type 0 → Type 0
LockToken V I = Seat (Option V) (PassView V I)

module _ {V I : Type 0} where
  -- the values that the table of a seat was made of
  abbrev pub first_of : LockToken V I → List V
  first_of p = p.me.0.first

  -- what a pass made since then
  abbrev pub made_of : LockToken V I → List (Made I)
  made_of p = p.me.0.made

  -- the pass's number
  abbrev pub number_of : LockToken V I → Option ℕ
  number_of p = p.me.0.number

  -- the list of what a pass holds, as it was taken
  abbrev pub had_by : LockToken V I → List I
  had_by p = p.me.0.had

  -- the table's own seat, after that many passes
  pub record IsOwn (own : LockToken V I) : Type 0 where
    pub keeps : own.me.0.keeps ≡ true
    pub idle : own.me.0.out ≡ None
    pub unnumbered : own.me.0.number ≡ None
    pub empty : own.me.1 ≡ []

  -- a pass of the table with these first values, which holds nothing
  pub record IsPass (table_id : TableId) (first : List V) (p : LockToken V I) : Type 0 where
    pub table : p.table_id ≡ table_id
    pub first_is : first_of p ≡ first
    pub plain : p.me.0.keeps ≡ false
    pub idle : p.me.0.out ≡ None
    pub numbered : (k : ℕ) × (number_of p ≡ Some k)
    pub empty : p.me.1 ≡ []
    pub shaped : table_id.words ≡ length first

  -- a pass of the table with this seat of its own, which holds nothing
  abbrev pub IsPassOf : LockToken V I → LockToken V I → Type 0
  IsPassOf own p = IsPass own.table_id (first_of own) p

  -- a pass of the table with these first values that holds the object
  pub record Holds (table_id : TableId) (first : List V) (object : ℕ) (p : LockToken V I) : Type 0 where
    pub table : p.table_id ≡ table_id
    pub first_is : first_of p ≡ first
    pub plain : p.me.0.keeps ≡ false
    pub out : p.me.0.out ≡ Some object
    pub slot : p.me.1 ≡ (object, None) ∷ []
    pub numbered : (k : ℕ) × (number_of p ≡ Some k)
    pub inside : object < length first
    pub shaped : table_id.words ≡ length first

  -- the passes of a table, each at the index of its number
  pub record AreAll (own : LockToken V I) (ps : List (LockToken V I)) : Type 0 where
    pub counted : length ps ≡ own.me.0.next
    pub unused : own.me.0.known ≡ []
    pub each_is : (k : ℕ) (p : LockToken V I) → get_elem? ps k ≡ some p → IsPassOf own p × (number_of p ≡ Some k)

  -- the same, and none of them has made anything yet
  pub record AreNew (own : LockToken V I) (ps : List (LockToken V I)) : Type 0 where
    pub all_are : AreAll own ps
    pub empty : (k : ℕ) (p : LockToken V I) → get_elem? ps k ≡ some p → made_of p ≡ []

module _ {V I R : Type 0} (root : V → R) (entries : V → List I) where
  -- the list is the one at the take, with entries added at its end
  abbrev pub HasGrown : List I → V → Type 0
  HasGrown had y = (more : List I) × (entries y ≡ had ++ more)

  -- the value has the root of the object
  abbrev pub HasRoot : List V → ℕ → V → Type 0
  HasRoot first object y = (u : V) → get_elem? first object ≡ some u → root y ≡ root u

  -- what a pass made of an object that it gives back
  abbrev pub gained : ℕ → List I → V → List (Made I)
  gained object had y = placed object (length had) (drop (length had) (entries y))
