-- That the devices and the links of a file keep the rules but for cycles.
use Rattle.std.specs.Prelude.{◌≡◌, ◌≤◌, length, codes, None}
use Rattle.serde_json.specs.Data.{Data}
use Rattle.borrowed_json.specs.Look.{list_in}
use Rattle.file_rules.specs.Devices.{orphan, loose_link, repeated_link}

-- few devices, each after its parent, and few links, each between two devices and new
pub record AreJoined (file : Data) : Type 0 where
  pub few_devices : length (list_in (codes "devices") file) ≤ 1000
  pub few_links : length (list_in (codes "links") file) ≤ 4000
  pub parents : orphan file ≡ None
  pub ends : loose_link file ≡ None
  pub again : repeated_link file ≡ None
