-- Chains of devices, each right below the one before, and levels that show that no chain is longer (drivers/base/power/main.c,
-- dpm_wait_for_superior).
use Rattle.std.specs.Prelude.{◌≡◌, ◌≤◌, ◌<◌, ◌-◌, max, ℕ, suc, Bool, true, ◌==◌, ◌&&◌, nat_lt, nat_le, List, [], ◌∷◌, length, slice_index_or, Option, Some, None, if◌then◌else◌}
use Rattle.std.specs.List.{list_all}
use Rattle.sleep_model.specs.Order.{is_among, order_by}
use Rattle.device_links.specs.Invariant.{active_above, active_below}
use Rattle.device_links.specs.Linked.{Linked}
use Rattle.device_chain.specs.declared.chain.Chain.{Chain}

-- ---- who is right above and right below a device

-- the devices that must sleep before d does, by the links that are active, each once (dpm_wait_for_subordinate)
abbrev pub below_of : Linked → ℕ → List ℕ
below_of l d = active_below l.parents l.links d

-- the devices that must be awake before d is, by the links that are active, each once (dpm_wait_for_superior)
abbrev pub above_of : Linked → ℕ → List ℕ
above_of l d = active_above l.parents l.links d

-- all devices, in the order in which they are resumed (dpm_list)
abbrev pub order_of : Linked → List ℕ
order_of l = order_by l.parents l.links

-- ---- chains

-- a device may follow in a chain: the first is any device, each later one is right below the one before (dpm_wait_for_superior)
abbrev pub may_follow : Linked → Option ℕ → ℕ → Bool
may_follow l None d = nat_lt d (length l.parents)
may_follow l (Some before) d = is_among (below_of l before) d

-- the devices follow one another, after that one
abbrev pub follow : Linked → Option ℕ → List ℕ → Bool
follow l before [] = true
follow l before (d ∷ ds) = may_follow l before d && follow l (Some d) ds

-- the devices are a chain: each later one is right below the one before
abbrev pub is_chain : Linked → List ℕ → Bool
is_chain l devices = follow l None devices

-- ---- levels

-- the level of a device; 0 if the list has none
abbrev pub level_at : List ℕ → ℕ → ℕ
level_at levels d = slice_index_or levels d 0

-- a device's level is 1 to n, and greater than that of each device right above it
abbrev pub is_level : Linked → List ℕ → ℕ → ℕ → Bool
is_level l levels n d =
    (nat_le 1 (level_at levels d) && nat_le (level_at levels d) n)
    && list_all (λ e. nat_lt (level_at levels e) (level_at levels d)) (above_of l d)

-- the list has a level for each device, and no more
abbrev pub are_levels : Linked → List ℕ → ℕ → Bool
are_levels l levels n = length levels == length l.parents && list_all (is_level l levels n) (order_of l)

-- the chain is one, and the levels, up to its length, show that no chain is longer
abbrev pub is_certified : Linked → Chain → Bool
is_certified l c = is_chain l c.devices && are_levels l c.levels (length c.devices)

-- ---- the longest chain

-- the greatest of a level and those of these devices
abbrev pub greatest : List ℕ → ℕ → List ℕ → ℕ
greatest levels most [] = most
greatest levels most (d ∷ ds) = greatest levels (max most (level_at levels d)) ds

-- a device without any supplier has level 1, any other one level more than the highest of its suppliers
abbrev pub IsLevel : Linked → List ℕ → ℕ → Type 0
IsLevel l levels d = level_at levels d ≡ suc (greatest levels 0 (above_of l d))

-- the one that was registered first of a device, if there is one, and another
abbrev pub first_of : Option ℕ → ℕ → ℕ
first_of None d = d
first_of (Some e) d = if nat_lt d e then d else e

-- the device, if it has that level, or the one that was found, which was registered first
abbrev pub found_after : List ℕ → ℕ → Option ℕ → ℕ → Option ℕ
found_after levels level found d = if level_at levels d == level then Some (first_of found d) else found

-- the device of that level that was registered first, of these and of the one that was found
abbrev pub first_at : List ℕ → ℕ → Option ℕ → List ℕ → Option ℕ
first_at levels level found [] = found
first_at levels level found (d ∷ ds) = first_at levels level (found_after levels level found d) ds

-- a chain that ends with that device; each one before another is the first registered right above that one, of a level one less
abbrev pub IsLed : Linked → List ℕ → ℕ → List ℕ → Type 0
IsLed l levels end [] = ⊥
IsLed l levels end (d ∷ []) = d ≡ end
IsLed l levels end (d ∷ e ∷ ds) =
    (first_at levels (level_at levels e - 1) None (above_of l e) ≡ Some d) × IsLed l levels end (e ∷ ds)

-- such a chain, if there is a device that it ends with
abbrev pub IsLedTo : Linked → List ℕ → Option ℕ → List ℕ → Type 0
IsLedTo l levels None devices = devices ≡ []
IsLedTo l levels (Some end) devices = IsLed l levels end devices

-- the device that was registered first of those with the greatest level
abbrev pub end_of : Linked → List ℕ → Option ℕ
end_of l levels = first_at levels (greatest levels 0 (order_of l)) None (order_of l)

-- levels: one for each device, 1 more than the greatest right above it, else 1
pub record AreLevels (l : Linked) (levels : List ℕ) : Type 0 where
  pub count : length levels ≡ length l.parents
  pub each : (d : ℕ) → d < length l.parents → IsLevel l levels d

-- the longest chain: it is certified, so no chain is longer
pub record IsLongest (l : Linked) (c : Chain) : Type 0 where
  pub levels : AreLevels l c.levels
  pub led : IsLedTo l c.levels (end_of l c.levels) c.devices
  pub certified : is_certified l c ≡ true
  pub none_longer : (other : List ℕ) → is_chain l other ≡ true → length other ≤ length c.devices
