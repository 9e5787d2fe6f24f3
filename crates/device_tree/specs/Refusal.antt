-- Which devices are not registered.
use Rattle.std.specs.Prelude.{◌≡◌, ℕ, Bool, false, List, map, length, position, bytes_eq, nat_le, if◌then◌else◌, Option, Some, None, Result, Ok, Err}
use Rattle.std.specs.List.{list_any}
use Rattle.sleep_model.specs.declared.machine.Device.{Device}
use Rattle.device_tree.specs.declared.fault.TreeFault.{TreeFault}
use Rattle.device_tree.specs.declared.fault.TreeFault.TheVariants.{TooMany, NameTaken, NoParent, Mem}

-- the number of the device of this name
abbrev pub number_of_name : List ℕ → List Device → Option ℕ
number_of_name name devices = position (bytes_eq name) (map (λ d. d.name) devices)

-- a device of this name is among them
abbrev pub is_taken : List ℕ → List Device → Bool
is_taken name devices = list_any (bytes_eq name) (map (λ d. d.name) devices)

-- the parent is not among the first n devices
abbrev pub is_lost : ℕ → Option ℕ → Bool
is_lost n None = false
is_lost n (Some p) = nat_le n p

-- why a device is not registered after these, in the order of the tests (device_add)
abbrev pub refusal : List Device → Device → Option TreeFault
refusal devices d =
    if nat_le 1000 (length devices) then Some TooMany else
    if is_taken d.name devices then Some NameTaken else
    if is_lost (length devices) d.parent then Some NoParent else None

-- what is answered is the refusal, and if there is none, out of memory or success
abbrev pub RefusesDevice : {T : Type 0} → Result T TreeFault → Option TreeFault → Type 0
RefusesDevice (Ok x) None = Unit {0}
RefusesDevice (Ok x) (Some f) = ⊥
RefusesDevice (Err e) None = e ≡ Mem
RefusesDevice (Err e) (Some f) = e ≡ f
