-- The invariant of links.
use Rattle.std.specs.Prelude.{◌≡◌, ◌≤◌, ◌<◌, ◌^◌, ℕ, Bool, ◌==◌, List, [], ◌∷◌, ◌++◌, length, slice_index_or, if◌then◌else◌, Option}
use Rattle.sleep_model.specs.declared.machine.Link.{Link}
use Rattle.sleep_model.specs.Order.{EachAfterParent, active_of, dependents, superiors, suppliers_of, order_by}
use Rattle.sleep_model.specs.Links.{AreLinks, first_occurrences}
use Rattle.device_rows.specs.Table.{Table, room_at}
use Rattle.link_rows.specs.Rows.{IsTableOf}

-- the numbers, the oldest first, of the links that a test takes; the newest link comes first, and the oldest has number 0 (own)
abbrev pub numbers_of : (Link → Bool) → List Link → List ℕ
numbers_of test [] = []
numbers_of test (l ∷ earlier) = numbers_of test earlier ++ (if test l then length earlier ∷ [] else [])

-- what must sleep before d does, by the links that are active, each once (dpm_wait_for_subordinate)
abbrev pub active_below : List (Option ℕ) → List Link → ℕ → List ℕ
active_below parents links d = first_occurrences (dependents parents (active_of links) d)

-- what must be awake before d is, by the links that are active, each once (dpm_wait_for_superior)
abbrev pub active_above : List (Option ℕ) → List Link → ℕ → List ℕ
active_above parents links d = first_occurrences (superiors parents (active_of links) d)

-- the rows have room for all that may come into them, were every link active
pub record HaveRoomForAll (parents : List (Option ℕ)) (links : List Link) (seen_below seen_above : Table) : Type 0 where
  pub below : (d : ℕ) → length (dependents parents links d) ≤ room_at seen_below d
  pub above : (d : ℕ) → length (superiors parents links d) ≤ room_at seen_above d

-- these are the numbers of the links that each of n devices supplies, and of those that it consumes (struct dev_links_info)
pub record AreNumbered (n : ℕ) (links : List Link) (supplied consumed : List (List ℕ)) : Type 0 where
  pub by_supplier : IsTableOf n (λ d. numbers_of (λ l. l.supplier == d) links) supplied
  pub by_consumer : IsTableOf n (λ d. numbers_of (λ l. l.consumer == d) links) consumed

-- a link's supplier has room for one more number, and so has its consumer (own)
pub record LinkHasRoom (l : Link) (supplied consumed : Table) : Type 0 where
  pub supplier : 0 < slice_index_or supplied.room l.supplier 0
  pub consumer : 0 < slice_index_or consumed.room l.consumer 0

-- the tables and the order are those of the parents and the links
pub record LinksInvariant (parents : List (Option ℕ)) (links : List Link) (hangs below suppliers above : List (List ℕ)) (order : List ℕ) : Type 0 where
  pub numbered : length parents < 2 ^ 32
  pub after : EachAfterParent 0 parents
  pub few : length links ≤ 4000
  pub linked : AreLinks parents links
  pub all_dependents : IsTableOf (length parents) (dependents parents links) hangs
  pub once_below : IsTableOf (length parents) (active_below parents links) below
  pub all_suppliers : IsTableOf (length parents) (λ d. suppliers_of d links) suppliers
  pub once_above : IsTableOf (length parents) (active_above parents links) above
  pub ordered : order ≡ order_by parents links

-- the whole invariant
pub record IsWhole (parents : List (Option ℕ)) (links : List Link) (hangs : List (List ℕ)) (below : Table) (suppliers : List (List ℕ)) (above : Table) (supplied consumed : List (List ℕ)) (order : List ℕ) : Type 0 where
  pub kept : LinksInvariant parents links hangs below.rows suppliers above.rows order
  pub places : HaveRoomForAll parents links below above
  pub numbers : AreNumbered (length parents) links supplied consumed
