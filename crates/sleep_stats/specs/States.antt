-- The states of links by their ends, as a map.
use Rattle.std.specs.Prelude.{◌≡◌, ℕ, Bool, List, Option, None, is_some}
use Rattle.sleep_model.specs.declared.entry.Entry.{Entry}
use Rattle.sleep_model.specs.declared.entry.Kind.{Kind}
use Rattle.sleep_model.specs.declared.machine.Link.{Link}
use Rattle.sleep_model.specs.Links.{is_linked}
use Rattle.sleep_stats.specs.declared.linked.Ends.{Ends}
use Rattle.sleep_stats.specs.Linked.{state_after, state_by}

-- the ends of a link
abbrev pub ends : ℕ → ℕ → Ends
ends supplier consumer = record { supplier = supplier; consumer = consumer }

-- an entry's part was taken in the states
abbrev pub AreSet : (Ends → Option Bool) → (Ends → Option Bool) → Kind → Type 0
AreSet old new what = (s c : ℕ) → new (ends s c) ≡ state_after what s c (old (ends s c))

-- each state is the last that these entries set
abbrev pub AreLast : List Entry → (Ends → Option Bool) → Type 0
AreLast entries at = (s c : ℕ) → at (ends s c) ≡ state_by None entries s c

-- the ends of each link are marked, and no others
abbrev pub AreMarked : List Link → (Ends → Option Bool) → Type 0
AreMarked links at = (s c : ℕ) → is_some (at (ends s c)) ≡ is_linked links s c
