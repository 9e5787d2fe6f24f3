-- Devices' parents and links, and the rows that the account has of them.
use Rattle.std.specs.Prelude.{◌≡◌, ◌<◌, ◌^◌, ◌++◌, ◌==◌, ℕ, Bool, true, false, not, List, [], ◌∷◌, length, map, filter, slice_index_or, if◌then◌else◌, Option}
use Rattle.sleep_model.specs.declared.machine.Link.{Link}
use Rattle.sleep_model.specs.Order.{EachAfterParent, is_among, is_link, with_state, active_of, dependents, superiors, order_by}
use Rattle.sleep_model.specs.Links.{AreLinks}
use Rattle.device_rows.specs.Table.{Table}
use Rattle.check_order.specs.Visited.{visited}

-- n rows, each as f says (own)
pub record IsTableOf (n : ℕ) (f : ℕ → List ℕ) (rows : List (List ℕ)) : Type 0 where
  pub count : length rows ≡ n
  pub each : (d : ℕ) → slice_index_or rows d [] ≡ f d

-- these devices at the end of the order (device_pm_move_last)
abbrev pub put_last : List ℕ → List ℕ → List ℕ
put_last devices order = filter (λ d. not (is_among devices d)) order ++ devices

-- the order after a device was moved to its end, with all that depends on it (device_reorder_to_tail)
abbrev pub moved_to_end : ℕ → (ℕ → List ℕ) → ℕ → List ℕ → List ℕ
moved_to_end n dependents_of d order = put_last (visited n dependents_of d []) order

-- the parent of each device, and the links, the newest first (struct device, struct device_link)
pub record GraphState : Type 0 where
  pub parents : List (Option ℕ)
  pub links : List Link

-- the parents, with these links
abbrev pub with_links : GraphState → List Link → GraphState
with_links t links = record t { links = links }

-- what the devices and the links are, as the reader of machines takes them (device_add, device_link_add)
pub record IsGraph (t : GraphState) : Type 0 where
  pub numbered : length t.parents < 2 ^ 32
  pub after : EachAfterParent 0 t.parents
  pub linked : AreLinks t.parents t.links

-- what is below and above each device by the links that are active (dpm_wait_for_subordinate, dpm_wait_for_superior)
pub record AreActive (parents : List (Option ℕ)) (links : List Link) (rows_below rows_above : List (List ℕ)) : Type 0 where
  pub below : IsTableOf (length parents) (dependents parents (active_of links)) rows_below
  pub above : IsTableOf (length parents) (superiors parents (active_of links)) rows_above

-- what is below a link's supplier and above its consumer by active links (dpm_wait_for_subordinate, dpm_wait_for_superior)
pub record AreShown (parents : List (Option ℕ)) (links : List Link) (l : Link) (row_below row_above : List ℕ) : Type 0 where
  pub below : row_below ≡ dependents parents (active_of links) l.supplier
  pub above : row_above ≡ superiors parents (active_of links) l.consumer

-- the links, after that state was set (struct device_link, status)
abbrev pub links_with : Link → List Link → List Link
links_with changed links = map (with_state changed.supplier changed.consumer changed.active) links

-- ---- the indices of links

-- the indices, the oldest first, of the links that a test takes; the newest link comes first, and the oldest has index 0 (own)
abbrev pub places_of : (Link → Bool) → List Link → List ℕ
places_of test [] = []
places_of test (l ∷ earlier) = places_of test earlier ++ (if test l then length earlier ∷ [] else [])

-- these are the indices of the links that each of n devices supplies, and of those that it consumes (struct dev_links_info)
pub record ArePlaced (n : ℕ) (links : List Link) (supplied consumed : List (List ℕ)) : Type 0 where
  pub by_supplier : IsTableOf n (λ d. places_of (λ l. l.supplier == d) links) supplied
  pub by_consumer : IsTableOf n (λ d. places_of (λ l. l.consumer == d) links) consumed

-- what is read at an index that no link has (own)
abbrev pub no_link : Link
no_link = record { supplier = 0; consumer = 0; active = false }

-- the link between these two has that index, the oldest first
pub record StandsAt (supplier consumer : ℕ) (links : List Link) (place : ℕ) : Type 0 where
  pub within : place < length links
  pub is : is_link supplier consumer (slice_index_or links place no_link) ≡ true

-- the rows of a link's devices have room for one more number (own)
pub record HaveRoom (l : Link) (rows_hanging rows_supplied rows_consumed : Table) : Type 0 where
  pub hanging : 0 < slice_index_or rows_hanging.room l.supplier 0
  pub supplied : 0 < slice_index_or rows_supplied.room l.supplier 0
  pub consumed : 0 < slice_index_or rows_consumed.room l.consumer 0

-- ---- all that is made of them

-- what depends on each device by all links, the indices of the links, what is below and above it by the active ones, and the order
-- (dpm_list)
pub record IsMade (t : GraphState) (rows_hanging supplied consumed rows_below rows_above : List (List ℕ)) (devices : List ℕ) : Type 0 where
  pub graph : IsGraph t
  pub hanging : IsTableOf (length t.parents) (dependents t.parents t.links) rows_hanging
  pub placed : ArePlaced (length t.parents) t.links supplied consumed
  pub active : AreActive t.parents t.links rows_below rows_above
  pub order : devices ≡ order_by t.parents t.links
