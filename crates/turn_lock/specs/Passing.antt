-- The tokens of passes, and the values of slots.
use Rattle.std.specs.Prelude.{◌≡◌, ℕ, ◌<◌, List, map, length, Option, Some}
use mathlib.Core.Option.{some}
use lib.ListN.{get_elem?}
use Rattle.turn_lock.specs.Passes.{LockToken, made_of}
use Rattle.turn_lock.specs.declared.view.Made.{Made}
use Rattle.turn_lock.specs.declared.table.Pass.{Pass}

module _ {V I : Type 0} where
  -- the token of each pass
  abbrev pub tokens : List (Pass V I) → List (LockToken V I)
  tokens ps = map (λ (p : Pass V I). p.token) ps

  -- what each pass made
  abbrev pub made_lists : List (Pass V I) → List (List (Made I))
  made_lists ps = map (λ (p : Pass V I). made_of p.token) ps

module _ {V : Type 0} where
  -- the values are those of the slots, in order
  abbrev pub AreOut : List V → List (Option V) → Type 0
  AreOut values slots = (i : ℕ) (y : V) → get_elem? values i ≡ some y → get_elem? slots i ≡ some (Some y)

  -- each slot has a value
  abbrev pub AreFull : List (Option V) → Type 0
  AreFull slots = (i : ℕ) → i < length slots → (y : V) × (get_elem? slots i ≡ some (Some y))
