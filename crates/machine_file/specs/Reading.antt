-- What is read of a file.
use Rattle.std.specs.Prelude.{◌≡◌, None, reverse}
use Rattle.serde_json.specs.Data.{Data}
use Rattle.sleep_model.specs.declared.machine.Machine.{Machine}
use Rattle.sleep_model.specs.Order.{parents_of}
use Rattle.device_links.specs.Linked.{Linked}
use Rattle.machine_file.specs.declared.reading.ReadMachine.{ReadMachine}
use Rattle.file_rules.specs.Whole.{whole_machine}
use Rattle.file_rules.specs.ValidFiles.{first_in_order}

-- a machine's links, by the parents of its devices, the newest first
abbrev pub links_among : Machine → Linked
links_among m = record { parents = parents_of m.devices; links = reverse m.links }

-- the machine that a value spells, which breaks no rule, and its links
pub record Reads (file : Data) (r : ReadMachine) : Type 0 where
  pub unbroken : first_in_order file ≡ None
  pub machine : r.machine ≡ whole_machine file
  pub links : r.links ≡ links_among r.machine
