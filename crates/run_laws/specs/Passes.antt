-- Whose each entry of the machine is, by what the passes of its lock made (own).
use Rattle.std.specs.Prelude.{◌≡◌, ◌<◌, ℕ, true, List, [], ◌∷◌, ◌++◌, length, map, filter, reverse, slice_index_or}
use mathlib.Core.Option.{some}
use lib.ListN.{get_elem?}
use Rattle.std.specs.List.{list_all}
use Rattle.sleep_model.specs.declared.entry.Actor.{Actor}
use Rattle.sleep_model.specs.declared.entry.JournalEntry.{JournalEntry}
use Rattle.sleep_model.specs.Path.{is_same}
use Rattle.turn_lock.specs.declared.view.Made.{Made}
use Rattle.turn_lock.specs.Bookings.{of_object}
use Rattle.turn_lock.specs.Locks.{AreClosed}

-- an entry of the journal, with the entries before it, the newest first
pub record Noted : Type 0 where
  pub entry : JournalEntry
  pub past : List JournalEntry

-- the entries of a journal, whose newest comes first, each with those before it, the oldest first
abbrev pub items : List JournalEntry → List Noted
items [] = []
items (e ∷ past) = items past ++ record { entry = e; past = past } ∷ []

-- an actor's entries among them
abbrev pub items_by : Actor → List Noted → List Noted
items_by who noted = filter (λ n. is_same n.entry.entry.actor who) noted

-- what a pass made of an object
abbrev pub made_by_passes : ℕ → List (List (Made Noted)) → ℕ → List (Made Noted)
made_by_passes object passes k = of_object object (slice_index_or passes k [])

-- each pass made entries of one actor only, and no two of the same
pub record HaveMakers (makers : ℕ → Actor) (object : ℕ) (passes : List (List (Made Noted))) : Type 0 where
  pub own : (k : ℕ) → k < length passes
      → list_all (λ m. is_same m.entry.entry.entry.actor (makers k)) (made_by_passes object passes k) ≡ true
  pub apart : (j k : ℕ) → j < length passes → k < length passes → is_same (makers j) (makers k) ≡ true → j ≡ k

-- the journal has grown by entries, of which each actor's are what its pass made, each with the journal before it
pub record SaysWho
    (makers : ℕ → Actor) (object : ℕ) (passes : List (List (Made Noted))) (before after : List JournalEntry)
    : Type 0 where
  pub new : List Noted
  pub journal : after ≡ reverse (map (λ n. n.entry) new) ++ before
  pub noted : items after ≡ items before ++ new
  pub each : (k : ℕ) → k < length passes → map (λ m. m.entry) (made_by_passes object passes k) ≡ items_by (makers k) new

module _ {V R : Type 0} (root : V → R) (journal : V → List JournalEntry) where
  -- a closed table of locks, whose passes have makers, says of an object whose each entry is
  abbrev pub LogSays : List V → List (List (Made Noted)) → List V → Type 0
  LogSays first passes values =
      (makers : ℕ → Actor) (object : ℕ) (old new : V) → AreClosed root (λ y. items (journal y)) first passes values
      → HaveMakers makers object passes → get_elem? first object ≡ some old → get_elem? values object ≡ some new
      → SaysWho makers object passes (journal old) (journal new)

-- so for all objects of that type that have journals
abbrev pub LogSaysWho : Type 0 → Type 0 → Type 0
LogSaysWho V R =
    (root : V → R) (journal : V → List JournalEntry) (first : List V) (passes : List (List (Made Noted)))
    (values : List V) → LogSays root journal first passes values
