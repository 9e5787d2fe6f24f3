-- That a file keeps the rules, and what is read of it then.
use Rattle.std.specs.Prelude.{◌≡◌, None, reverse}
use Rattle.serde_json.specs.Data.{Data}
use Rattle.sleep_model.specs.Order.{parents_of}
use Rattle.file_rules.specs.declared.names.known.Known.{Known}
use Rattle.machine_file.specs.declared.reading.machine.Behaviour.{Behaviour}
use Rattle.machine_file.specs.declared.reading.machine.Parts.{Parts}
use Rattle.file_rules.specs.Answering.{whole_answers}
use Rattle.file_rules.specs.Devices.{whole_devices, whole_links}
use Rattle.file_rules.specs.Knows.{Knows, AreFew, SpellsScripts}
use Rattle.file_rules.specs.ValidFiles.{first_in_order}

-- no rule is broken, the names are known and few, the links are added, and the scripts and the answers are read
pub record IsSound (file : Data) (k : Known) (p : Parts) : Type 0 where
  pub unbroken : first_in_order file ≡ None
  pub knows : Knows k file
  pub few : AreFew k
  pub links : p.linking.links.items ≡ whole_links file
  pub added : p.linking.added.links ≡ record { parents = parents_of (whole_devices file); links = reverse (whole_links file) }
  pub scripts : SpellsScripts file k p.behaviour.scripts
  pub answers : p.behaviour.answers.items ≡ whole_answers file

-- these are the scripts of the file, and its answers
pub record SpellsBehaviour (file : Data) (k : Known) (b : Behaviour) : Type 0 where
  pub scripts : SpellsScripts file k b.scripts
  pub answers : b.answers.items ≡ whole_answers file
