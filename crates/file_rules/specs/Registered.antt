-- Devices that are registered in turn.
use Rattle.std.specs.Prelude.{◌≡◌, ◌≤◌, ℕ, List, [], not, length, map, codes, bytes_eq, position, unwrap_or, Option, Some, None, option_map, All}
use Rattle.std.specs.Borrow.{Bor}
use Rattle.serde_json.specs.Data.{Data}
use Rattle.sleep_model.specs.declared.machine.Device.{Device}
use Rattle.device_tree.specs.declared.fault.TreeFault.{TreeFault}
use Rattle.device_tree.specs.declared.fault.TreeFault.TheVariants as fault
use Rattle.file_rules.specs.Devices.{flags_of, has_parent_before, whole_device}
use Rattle.file_rules.specs.Fitting.{IsShort}
use Rattle.borrowed_json.specs.Look.{word_at}
use Rattle.file_rules.specs.Names.{is_among_names}
use Rattle.file_rules.specs.Places.{first_not_after}
use Rattle.file_rules.specs.Rules.{name_of}

-- devices with names of 1 to 32 bytes
abbrev pub AreShort : List Device → Type 0
AreShort devices = All (λ d. IsShort d.name) devices

-- these are the names of the devices, which are no more than a machine may have
pub record AreNumbered (devices : List Device) (numbers : List (Bor (List ℕ))) : Type 0 where
  pub names : map (λ s. s.now) numbers ≡ map (λ d. d.name) devices
  pub few : length numbers ≤ 1000

-- the number of a device's parent among those of these names; if it is none of them, a number that none of them has
abbrev pub parent_after : List (List ℕ) → Data → Option ℕ
parent_after names d = option_map (λ p. unwrap_or (position (bytes_eq p) names) (length names)) (word_at (codes "parent") d)

-- a device as it is registered after the devices of these names (device_add)
abbrev pub device_after : List (List ℕ) → Data → Device
device_after names d = record { name = name_of d; parent = parent_after names d; flags = flags_of d }

-- all these devices are registered: each name is new, and each parent comes before
pub record AreRegistered (ds : List Data) (devices : List Device) : Type 0 where
  pub is : devices ≡ map (whole_device (map name_of ds)) ds
  pub apart : first_not_after (λ before name. not (is_among_names before name)) [] 0 (map name_of ds) ≡ None
  pub parents : first_not_after has_parent_before [] 0 ds ≡ None

-- the first of these devices that cannot be registered has this number: its name is taken, or its parent is not registered
abbrev pub Stops : TreeFault → ℕ → List Data → Type 0
Stops fault.TooMany n ds = ⊥
Stops fault.NameTaken n ds = first_not_after (λ before name. not (is_among_names before name)) [] 0 (map name_of ds) ≡ Some n
Stops fault.NoParent n ds = first_not_after has_parent_before [] 0 ds ≡ Some n
Stops fault.Mem n ds = Unit {0}
