-- That the names of a file's things are known.
use Rattle.std.specs.Prelude.{◌≡◌, ◌≤◌, ℕ, List, Vec, map, length, codes}
use Rattle.std.specs.Borrow.{Bor}
use Rattle.std.specs.declared.alloc.Global.{Global}
use Rattle.sleep_model.specs.declared.machine.Device.{Device}
use Rattle.sleep_model.specs.declared.machine.Script.{Script}
use Rattle.serde_json.specs.Data.{Data}
use Rattle.file_rules.specs.declared.names.known.Known.{Known}
use Rattle.file_rules.specs.Operations.{Known as Names, whole_marks, whole_scripts}
use Rattle.file_rules.specs.Devices.{whole_devices}
use Rattle.file_rules.specs.Names.{names_in, texts_in, devices_named, sources_named}

-- the texts after references
abbrev pub texts : List (Bor (List ℕ)) → List (List ℕ)
texts names = map (λ s. s.now) names

-- the names of devices
abbrev pub names : List Device → List (List ℕ)
names devices = map (λ d. d.name) devices

-- they are the file's devices, and the names of its devices, syscore callbacks, notifiers, sources and marks
pub record Knows (k : Known) (file : Data) : Type 0 where
  pub registered : k.devices ≡ whole_devices file
  pub devices : names k.devices ≡ devices_named file
  pub syscore : texts k.syscore ≡ texts_in (codes "syscore") file
  pub notifiers : texts k.notifiers ≡ names_in (codes "notifiers") file
  pub sources : texts k.sources ≡ sources_named file
  pub marks : texts k.marks ≡ whole_marks file

-- no more devices and sources than a machine may have, and no more other things
pub record AreFew (k : Known) : Type 0 where
  pub devices : length k.devices ≤ 1000
  pub syscore : length k.syscore ≤ 1000
  pub notifiers : length k.notifiers ≤ 1000
  pub sources : length k.sources ≤ 1000

-- what operations name by numbers
abbrev pub known_seen : Known → Names
known_seen k = record { devices = names k.devices; sources = texts k.sources; marks = texts k.marks }

-- these are the scripts of the file, if it has no more marks than a machine has steps
abbrev pub SpellsScripts : Data → Known → Vec Script Global → Type 0
SpellsScripts file k scripts = length k.marks ≤ 200000 → scripts.items ≡ whole_scripts file
