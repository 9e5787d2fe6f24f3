-- The order of devices at a point of the log, and which must go first (drivers/base/power/main.c, dpm_list; drivers/base/core.c,
-- device_link_add).
use Rattle.std.specs.Prelude.{◌<◌, ℕ, zero, suc, Bool, true, false, not, ◌==◌, ◌&&◌, ◌||◌, List, [], ◌∷◌, ◌++◌, length, map, reverse, filter, flat_map, if◌then◌else◌, Option, Some, None, IfSome, option_to_list, slice_get}
use Rattle.std.specs.List.{range_with_len}
use Rattle.sleep_base.specs.declared.errno.Errno.{Errno}
use Rattle.sleep_model.specs.declared.entry.Entry.{Entry}
use Rattle.sleep_model.specs.declared.entry.Kind.{Kind}
use Rattle.sleep_model.specs.declared.entry.Kind.TheVariants as kind
use Rattle.sleep_model.specs.declared.machine.Machine.{Machine}
use Rattle.sleep_model.specs.declared.machine.Device.{Device}
use Rattle.sleep_model.specs.declared.machine.Link.{Link}

-- the device is among these
abbrev pub is_among : List ℕ → ℕ → Bool
is_among [] d = false
is_among (x ∷ xs) d = (x == d) || is_among xs d

-- ---- links

-- a link between these two (device_link_add)
abbrev pub is_link : ℕ → ℕ → Link → Bool
is_link supplier consumer l = (l.supplier == supplier) && (l.consumer == consumer)

-- a link, whose state that becomes if it is between these two (struct device_link, status)
abbrev pub with_state : ℕ → ℕ → Bool → Link → Link
with_state supplier consumer active l = if is_link supplier consumer l then record l { active = active } else l

-- links, the newest first, after one is asked for and answered so: 0 adds it, active (device_link_add)
abbrev pub links_added : ℕ → ℕ → Option Errno → List Link → List Link
links_added supplier consumer None before = record { supplier = supplier; consumer = consumer; active = true } ∷ before
links_added supplier consumer (Some r) before = before

-- links after a state is asked for and answered so: 0 sets it (device_links_driver_bound)
abbrev pub links_set : ℕ → ℕ → Bool → Option Errno → List Link → List Link
links_set supplier consumer active None before = map (with_state supplier consumer active) before
links_set supplier consumer active (Some r) before = before

-- links after an entry
abbrev pub links_after : Kind → List Link → List Link
links_after (kind.LinkAdd supplier consumer r) before = links_added supplier consumer r before
links_after (kind.LinkState supplier consumer active r) before = links_set supplier consumer active r before
links_after _ before = before

-- the links, the newest first: the file's, then those that were added (struct device_link)
abbrev pub links_at : Machine → List Entry → List Link
links_at m [] = reverse m.links
links_at m (e ∷ past) = links_after e.kind (links_at m past)

-- the links that are not dormant (DL_STATE_DORMANT)
abbrev pub active_of : List Link → List Link
active_of links = filter (λ l. l.active) links

-- ---- who must go first

-- the parent is that device (struct device, parent)
abbrev pub is_parent : ℕ → Option ℕ → Bool
is_parent d None = false
is_parent d (Some p) = p == d

-- the parent of each device, in the order of registration (struct device, parent)
abbrev pub parents_of : List Device → List (Option ℕ)
parents_of devices = map (λ x. x.parent) devices

-- each device is registered after its parent; n devices come before these (device_add)
abbrev pub EachAfterParent : ℕ → List (Option ℕ) → Type 0
EachAfterParent n [] = Unit {0}
EachAfterParent n (p ∷ ps) = IfSome p (λ q. q < n) × EachAfterParent (suc n) ps

-- the numbers, from n on, of the devices whose parent is d, if these are the parents (device_for_each_child)
abbrev pub children_from : ℕ → ℕ → List (Option ℕ) → List ℕ
children_from d n [] = []
children_from d n (p ∷ ps) = if is_parent d p then n ∷ children_from d (suc n) ps else children_from d (suc n) ps

-- the consumers of d in the order of their links, of which the newest comes first (struct device_link, consumer)
abbrev pub consumers_of : ℕ → List Link → List ℕ
consumers_of d [] = []
consumers_of d (l ∷ earlier) = consumers_of d earlier ++ (if l.supplier == d then l.consumer ∷ [] else [])

-- the suppliers of d in the order of their links, of which the newest comes first (struct device_link, supplier)
abbrev pub suppliers_of : ℕ → List Link → List ℕ
suppliers_of d [] = []
suppliers_of d (l ∷ earlier) = suppliers_of d earlier ++ (if l.consumer == d then l.supplier ∷ [] else [])

-- the devices that hang below d by these links: its children, and its consumers (device_is_dependent)
abbrev pub dependents : List (Option ℕ) → List Link → ℕ → List ℕ
dependents parents links d = children_from d 0 parents ++ consumers_of d links

-- the devices that must sleep before d does, by the links that are active (dpm_wait_for_subordinate)
abbrev pub below : Machine → List Entry → ℕ → List ℕ
below m past d = dependents (parents_of m.devices) (active_of (links_at m past)) d

-- the parent at an index of the list, if there is one (struct device, parent)
abbrev pub parent_of : Option (Option ℕ) → List ℕ
parent_of None = []
parent_of (Some p) = option_to_list p

-- the devices that d hangs below by these links: its parent, and its suppliers (dpm_wait_for_superior)
abbrev pub superiors : List (Option ℕ) → List Link → ℕ → List ℕ
superiors parents links d = parent_of (slice_get parents d) ++ suppliers_of d links

-- the devices that must be awake before d is: its parent, and its suppliers by the links that are active (dpm_wait_for_superior)
abbrev pub above : Machine → List Entry → ℕ → List ℕ
above m past d = superiors (parents_of m.devices) (active_of (links_at m past)) d

-- ---- the order

-- d, then all that hangs below it, each with its own, down to some level; `dependents_of` gives what hangs right below a device
-- (device_reorder_to_tail)
abbrev pub moved : ℕ → (ℕ → List ℕ) → ℕ → List ℕ
moved zero dependents_of d = d ∷ []
moved (suc levels) dependents_of d = d ∷ flat_map (moved levels dependents_of) (dependents_of d)

-- each device only at its last position
abbrev pub last_occurrences : List ℕ → List ℕ
last_occurrences [] = []
last_occurrences (x ∷ xs) = if is_among xs x then last_occurrences xs else x ∷ last_occurrences xs

-- the order after these are taken out and put at its end (device_pm_move_last)
abbrev pub moved_last : List ℕ → List ℕ → List ℕ
moved_last devices order = filter (λ d. not (is_among devices d)) order ++ last_occurrences devices

-- the order after these links, the newest first: each moved its consumer, and all that hangs below it by the links up to this one, to the
-- end (device_link_add)
abbrev pub order_by : List (Option ℕ) → List Link → List ℕ
order_by parents [] = range_with_len 0 (length parents)
order_by parents (l ∷ earlier) =
    moved_last (moved (length parents) (dependents parents (l ∷ earlier)) l.consumer) (order_by parents earlier)

-- the devices in the order of their registration, moved by the links in turn, dormant ones too (dpm_list)
abbrev pub order : Machine → List Entry → List ℕ
order m past = order_by (parents_of m.devices) (links_at m past)
