-- Machines whose names can be read back from a log: spelled without spaces, and different.
use Rattle.std.specs.Prelude.{◌≡◌, ℕ, Bool, true, not, ◌&&◌, nat_le, List, [], ◌∷◌, length, map}
use Rattle.std.specs.List.{list_all, list_any}
use Rattle.std.specs.Str.{bytes_eq}
use Rattle.sleep_model.specs.declared.machine.Machine.{Machine}
use Rattle.sleep_model.specs.NameBytes.{is_name}
use Rattle.sleep_model.specs.Text.{source_names}

-- as many bytes as a name may have
abbrev pub is_name_long : List ℕ → Bool
is_name_long name = nat_le 1 (length name) && nat_le (length name) 32

-- no name comes twice
abbrev pub are_distinct : List (List ℕ) → Bool
are_distinct [] = true
are_distinct (name ∷ names) = not (list_any (bytes_eq name) names) && are_distinct names

-- these are names, and different
abbrev pub are_names : List (List ℕ) → Bool
are_names names = list_all is_name names && are_distinct names

-- the names of the devices
abbrev pub device_names : Machine → List (List ℕ)
device_names m = map (λ d. d.name) m.devices

-- the names of the notifiers
abbrev pub notifier_names : Machine → List (List ℕ)
notifier_names m = map (λ x. x.name) m.notifiers

-- the names of the scripts
abbrev pub script_names : Machine → List (List ℕ)
script_names m = map (λ s. s.name) m.actors

-- a machine whose names are spelled as names and different, those of sources from `autosleep` too
pub record AreNamed (m : Machine) : Type 0 where
  pub devices : are_names (device_names m) ≡ true
  pub syscore : are_names m.syscore ≡ true
  pub notifiers : are_names (notifier_names m) ≡ true
  pub sources : are_names (source_names m) ≡ true
  pub marks : are_names m.marks ≡ true
  pub scripts : are_names (script_names m) ≡ true
