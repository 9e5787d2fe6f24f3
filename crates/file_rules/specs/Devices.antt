-- The rules of devices and links, and the devices and links that a file spells.
use Rattle.std.specs.Prelude.{ℕ, ◌+◌, List, length, codes, Bool, false, not, ◌&&◌, bytes_eq, map, unwrap_or, Option, if◌then◌else◌}
use Rattle.std.specs.List.{list_any}
use Rattle.serde_json.specs.Data.{Data}
use Rattle.sleep_model.specs.declared.flags.DeviceFlags.{DeviceFlags}
use Rattle.sleep_model.specs.declared.machine.Device.{Device}
use Rattle.sleep_model.specs.declared.machine.Link.{Link}
use Rattle.sleep_model.specs.Order.{is_among, dependents, moved, parents_of}
use Rattle.borrowed_json.specs.Look.{is_none_or, text_at, has_text, list_in, truth_at, word_at}
use Rattle.file_rules.specs.Places.{first_item, first_later_item}
use Rattle.file_rules.specs.Names.{is_among_names, devices_named}
use Rattle.file_rules.specs.Rules.{name_of}
use Rattle.file_rules.specs.Spelled.{parent_of, index_among, link_of}

-- ---- the devices that are spelled

-- a bit that is set, or not
abbrev pub bit : Bool → ℕ → ℕ
bit set value = if set then value else 0

-- what a device's driver says of it: async, wakeup, runtime suspended (struct dev_pm_info)
abbrev pub flags_of : Data → DeviceFlags
flags_of d =
    record { 0 = bit (unwrap_or (truth_at (codes "async") d) false) 1 + bit (unwrap_or (truth_at (codes "wakeup") d) false) 2 + bit (has_text (codes "runtime") (codes "suspended") d) 4 }

-- a device, if the devices have these names
abbrev pub whole_device : List (List ℕ) → Data → Device
whole_device names d = record { name = name_of d; parent = parent_of names d; flags = flags_of d }

-- the devices of a file
abbrev pub whole_devices : Data → List Device
whole_devices file = map (whole_device (devices_named file)) (list_in (codes "devices") file)

-- the links of a file
abbrev pub whole_links : Data → List Link
whole_links file = map (link_of (devices_named file)) (list_in (codes "links") file)

-- ---- the rules

-- its parent, if it has one, is one of the devices before it (device_add)
abbrev pub has_parent_before : List Data → Data → Bool
has_parent_before before d = is_none_or (is_among_names (map name_of before)) (word_at (codes "parent") d)

-- the place of a parent that is no earlier device
abbrev pub orphan : Data → Option (List ℕ)
orphan file = first_later_item (codes "devices") has_parent_before file

-- both its ends are of these devices
abbrev pub has_ends : List (List ℕ) → Data → Bool
has_ends names d = is_among_names names (text_at (codes "supplier") d) && is_among_names names (text_at (codes "consumer") d)

-- the place of a link with an end that is no device (device_link_add)
abbrev pub loose_link : Data → Option (List ℕ)
loose_link file = first_item (codes "links") (has_ends (devices_named file)) file

-- the same ends in the same order
abbrev pub is_same_link : Data → Data → Bool
is_same_link l k = bytes_eq (text_at (codes "supplier") l) (text_at (codes "supplier") k) && bytes_eq (text_at (codes "consumer") l) (text_at (codes "consumer") k)

-- its ends differ, and it does not come before
abbrev pub is_new_link : List Data → Data → Bool
is_new_link before l = not (bytes_eq (text_at (codes "supplier") l) (text_at (codes "consumer") l)) && not (list_any (is_same_link l) before)

-- the place of a link that has only one end, or comes a second time (device_link_add)
abbrev pub repeated_link : Data → Option (List ℕ)
repeated_link file = first_later_item (codes "links") is_new_link file

-- its supplier does not hang below its consumer by the parents and the links before it (device_is_dependent)
abbrev pub closes_no_cycle : Data → List Data → Data → Bool
closes_no_cycle file before l =
    let names = devices_named file in
    let parents = parents_of (whole_devices file) in
    let below = moved (length parents) (dependents parents (map (link_of names) before)) (index_among names (text_at (codes "consumer") l)) in
    not (is_among below (index_among names (text_at (codes "supplier") l)))

-- the place of a link that closes a cycle
abbrev pub cyclic_link : Data → Option (List ℕ)
cyclic_link file = first_later_item (codes "links") (closes_no_cycle file) file
