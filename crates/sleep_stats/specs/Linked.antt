-- The links at a log's end (drivers/base/core.c, device_link_add).
use Rattle.std.specs.Prelude.{ℕ, Bool, true, ◌==◌, ◌&&◌, List, [], ◌∷◌, ◌++◌, map, reverse, Option, Some, None, if◌then◌else◌}
use Rattle.sleep_model.specs.declared.entry.Entry.{Entry}
use Rattle.sleep_model.specs.declared.entry.Kind.{Kind}
use Rattle.sleep_model.specs.declared.entry.Kind.TheVariants as kind
use Rattle.sleep_model.specs.declared.log.Log.{Log}
use Rattle.sleep_model.specs.declared.machine.Link.{Link}
use Rattle.sleep_model.specs.declared.machine.Machine.{Machine}
use Rattle.sleep_model.specs.Links.{is_linked}
use Rattle.sleep_model.specs.Order.{parents_of}
use Rattle.device_links.specs.Linked.{Linked}
use Rattle.sleep_stats.specs.declared.linked.Ends.{Ends}

-- links, the oldest first, with one more at their end that is active; one that there is already is not added again (device_link_add)
abbrev pub with_one : List Link → ℕ → ℕ → List Link
with_one links supplier consumer =
    if is_linked links supplier consumer then links
    else links ++ record { supplier = supplier; consumer = consumer; active = true } ∷ []

-- the ends of the link that an entry adds: 0 adds one (device_link_add)
abbrev pub added_ends : Kind → Option Ends
added_ends (kind.LinkAdd supplier consumer None) = Some (record { supplier = supplier; consumer = consumer })
added_ends _ = None

-- links, the oldest first, after an entry: 0 adds one (device_link_add)
abbrev pub added_after : Kind → List Link → List Link
added_after (kind.LinkAdd supplier consumer None) before = with_one before supplier consumer
added_after _ before = before

-- links, the oldest first, after these entries
abbrev pub added_by : List Link → List Entry → List Link
added_by before [] = before
added_by before (e ∷ later) = added_by (added_after e.kind before) later

-- a machine's links, and those that a log adds, each taken once, the oldest first (device_link_add)
abbrev pub added_links : Machine → Log → List Link
added_links m log = added_by m.links log.entries

-- the state of the link between these two after an entry: 0 sets it (device_links_driver_bound)
abbrev pub state_after : Kind → ℕ → ℕ → Option Bool → Option Bool
state_after (kind.LinkState s c active None) supplier consumer before =
    if s == supplier && c == consumer then Some active else before
state_after _ supplier consumer before = before

-- the state that was last set of the link between these two, by these entries or before them
abbrev pub state_by : Option Bool → List Entry → ℕ → ℕ → Option Bool
state_by before [] supplier consumer = before
state_by before (e ∷ later) supplier consumer = state_by (state_after e.kind supplier consumer before) later supplier consumer

-- that state, or the one before if none was set
abbrev pub state_or : Option Bool → Bool → Bool
state_or None before = before
state_or (Some active) before = active

-- a link in the state that was last set of it (struct device_link, status)
abbrev pub with_last : List Entry → Link → Link
with_last entries l = record l { active = state_or (state_by None entries l.supplier l.consumer) l.active }

-- a machine's links at a log's end, the oldest first (struct device_link)
abbrev pub last_links : Machine → Log → List Link
last_links m log = map (with_last log.entries) (added_links m log)

-- the devices and the links at a log's end
abbrev pub last_linked : Machine → Log → Linked
last_linked m log = record { parents = parents_of m.devices; links = reverse (last_links m log) }
