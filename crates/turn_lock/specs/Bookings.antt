-- The entries that passes made, and who made each entry of an object.
use Rattle.std.specs.Prelude.{ℕ, ◌+◌, ◌<◌, ◌==◌, if◌then◌else◌, List, [], ◌∷◌}
use Rattle.turn_lock.specs.declared.view.Made.{Made}

module _ {I : Type 0} where
  -- an entry at an index of an object's list
  abbrev pub made : ℕ → ℕ → I → Made I
  made object place x = record { object = object; place = place; entry = x }

  -- the entries of an object from this index on
  abbrev pub placed : ℕ → ℕ → List I → List (Made I)
  placed object place [] = []
  placed object place (x ∷ xs) = made object place x ∷ placed object (place + 1) xs

  -- those of the entries that are of this object
  abbrev pub of_object : ℕ → List (Made I) → List (Made I)
  of_object object [] = []
  of_object object (m ∷ ms) = if m.object == object then m ∷ of_object object ms else of_object object ms

  -- what one pass made of an object's entries from this index on, each with the number of its maker
  abbrev pub made_by : ℕ → ℕ → ℕ → List (ℕ × I) → List (Made I)
  made_by number object place [] = []
  made_by number object place (e ∷ es) =
      if e.0 == number then made object place e.1 ∷ made_by number object (place + 1) es else made_by number object (place + 1) es

  -- the entries without their makers
  abbrev pub empty : List (ℕ × I) → List I
  empty [] = []
  empty (e ∷ es) = e.1 ∷ empty es

  -- entries that one pass made
  abbrev pub all_by : ℕ → List I → List (ℕ × I)
  all_by number [] = []
  all_by number (x ∷ xs) = (number, x) ∷ all_by number xs

  -- each entry's maker has a number below this one
  abbrev pub AreBelow : ℕ → List (ℕ × I) → Type 0
  AreBelow next [] = Unit {0}
  AreBelow next (e ∷ es) = (e.0 < next) × AreBelow next es
