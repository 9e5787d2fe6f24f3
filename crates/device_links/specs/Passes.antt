-- Links that are made at once: their tables, and one walk after another over what depends on a device.
use Rattle.std.specs.Prelude.{◌≡◌, ◌≤◌, ◌<◌, ◌+◌, ◌++◌, ℕ, Bool, true, false, not, List, [], ◌∷◌, length, filter, reverse, flat_map, Option, Some, None}
use Rattle.sleep_model.specs.declared.machine.Link.{Link}
use Rattle.sleep_model.specs.Order.{is_among, dependents, suppliers_of, last_occurrences, moved, order_by}
use Rattle.sleep_model.specs.Links.{AreLinks, IsOrder, is_linked}
use Rattle.device_rows.specs.Table.{Table, row_at, with_number}
use Rattle.link_rows.specs.Rows.{IsPushed, IsTableOf, is_left_out}
use Rattle.device_links.specs.declared.seen.Tables.{Tables}
use Rattle.device_links.specs.declared.visits.Visits.{Visits}
use Rattle.device_links.specs.Invariant.{active_below, active_above, HaveRoomForAll}
use Rattle.device_links.specs.Linked.{Linked}
use Rattle.device_links.specs.Walks.{AreMarks}

-- each of the links, the first of them first, may be added in turn (device_link_add)
pub record CanBeAdded (parents : List (Option ℕ)) (links : List Link) : Type 0 where
  pub few : length links ≤ 4000
  pub linked : AreLinks parents (reverse links)

-- all of the links are added, or one of them would have been refused
abbrev pub Makes : List (Option ℕ) → List Link → Option Linked → Type 0
Makes parents links None = CanBeAdded parents links → ⊥
Makes parents links (Some l) = CanBeAdded parents links × (l ≡ record { parents = parents; links = reverse links })

-- ---- tables

-- links, the newest first, between registered devices, none twice
abbrev pub AreApart : List (Option ℕ) → List Link → Type 0
AreApart parents [] = Unit {0}
AreApart parents (l ∷ earlier) =
    (l.supplier < length parents) × (l.consumer < length parents) × (is_linked earlier l.supplier l.consumer ≡ false)
    × AreApart parents earlier

-- the link is between two of n devices, and these rows of suppliers lack it
pub record IsNew (n : ℕ) (suppliers : Table) (l : Link) : Type 0 where
  pub supplier : l.supplier < n
  pub consumer : l.consumer < n
  pub new : is_among (row_at suppliers l.consumer) l.supplier ≡ false

-- true if it is so, and false if it is not
abbrev pub Decides : Bool → Type 0 → Type 0
Decides true P = P
Decides false P = P → ⊥

-- the tables are those of the parents and the links
pub record AreTables (parents : List (Option ℕ)) (links : List Link) (t : Tables) : Type 0 where
  pub all_dependents : IsTableOf (length parents) (dependents parents links) t.dependents.rows
  pub once_below : IsTableOf (length parents) (active_below parents links) t.below.rows
  pub all_suppliers : IsTableOf (length parents) (λ d. suppliers_of d links) t.suppliers.rows
  pub once_above : IsTableOf (length parents) (active_above parents links) t.above.rows
  pub places : HaveRoomForAll parents links t.below t.above

-- each table has that number of rows
pub record HaveRows (n : ℕ) (t : Tables) : Type 0 where
  pub dependents : length t.dependents.rows ≡ n
  pub below : length t.below.rows ≡ n
  pub suppliers : length t.suppliers.rows ≡ n
  pub above : length t.above.rows ≡ n

-- the tables with one more link; what is left out is not put there, but has its room
pub record IsHung (parents : List (Option ℕ)) (l : Link) (old new : Tables) : Type 0 where
  pub dependents : new.dependents.rows ≡ with_number old.dependents.rows (Some l.supplier) l.consumer
  pub suppliers : new.suppliers.rows ≡ with_number old.suppliers.rows (Some l.consumer) l.supplier
  pub below : IsPushed (is_left_out parents l) l.supplier l.consumer (length (row_at new.dependents l.supplier) + 2) old.below new.below
  pub above : IsPushed (is_left_out parents l) l.consumer l.supplier (length (row_at new.suppliers l.consumer) + 2) old.above new.above

-- the tables of all these links, or one of them is there twice or between others than the devices
abbrev pub Tabulates : List (Option ℕ) → List Link → Option Tables → Type 0
Tabulates parents links None = AreApart parents links → ⊥
Tabulates parents links (Some t) = AreApart parents links × AreTables parents links t

-- ---- walks

-- no device depends on itself: as many levels as devices reach all below each
abbrev pub IsAcyclic : ℕ → (ℕ → List ℕ) → Type 0
IsAcyclic n dependents_of = (d : ℕ) → moved n dependents_of d ≡ d ∷ flat_map (moved n dependents_of) (dependents_of d)

-- between two walks: each device that was visited comes before all that depend on it, and has both its marks
pub record AreVisits (n : ℕ) (dependents_of : ℕ → List ℕ) (v : Visits) : Type 0 where
  pub ordered : IsOrder dependents_of v.out
  pub within : (d : ℕ) → is_among v.out d ≡ true → d < n
  pub entered : AreMarks v.entered.items n v.out
  pub left : AreMarks v.left.items n v.out

-- a device was visited, with all that depends on it but what was visited before, each at its last index
pub record IsVisited (n : ℕ) (dependents_of : ℕ → List ℕ) (from : ℕ) (old new : Visits) : Type 0 where
  pub visits : AreVisits n dependents_of new
  pub here : is_among new.out from ≡ true
  pub kept : (d : ℕ) → is_among old.out d ≡ true → is_among new.out d ≡ true
  pub placed : IsAcyclic n dependents_of → new.out ≡ filter (λ d. not (is_among old.out d)) (last_occurrences (moved n dependents_of from)) ++ old.out

-- a device was visited, or a cycle was met
abbrev pub Goes : ℕ → (ℕ → List ℕ) → ℕ → Visits → Visits → Bool → Type 0
Goes n dependents_of from old new true = IsVisited n dependents_of from old new
Goes n dependents_of from old new false = IsAcyclic n dependents_of → ⊥

-- the order that the links leave, or they close a cycle
abbrev pub Orders : List (Option ℕ) → List Link → Option (List ℕ) → Type 0
Orders parents links None = AreLinks parents links → ⊥
Orders parents links (Some order) = AreLinks parents links × (order ≡ order_by parents links)
