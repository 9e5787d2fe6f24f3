-- Proof that `numbered` meets its contract: the names are those of the devices.
use Rattle.std.proofs.Common.{◌≡◌, ◌∙◌, length, sym, ap, codes, arith}
use Rattle.std.proofs.lemmas.List.{length-map}
use Rattle.borrowed_json.specs.Look.{list_in}
use Rattle.borrowed_json.specs.View.{view}
use Rattle.file_rules.specs.Devices.{whole_devices}
use Rattle.file_rules.specs.Knows.{names}
use Rattle.file_rules.specs.Names.{devices_named}
use Rattle.file_rules.specs.Rules.{name_of}
use Rattle.file_rules.proofs.Registering.{names_whole}
use Rattle.file_rules.proofs.names.devices.numbered.Goals as goal

pub invariant_of-result : goal.invariant_of-result
invariant_of-result c =
    let file = view c.args.tree.now in
    let ds = list_in (codes "devices") file in
    let is : c.into_devices.result.items ≡ whole_devices file = c.into_devices.ensures.devices ∙ c.devices.view_is ∙ c.requires.devices in
    record {
      names = c.in-Ok.ensures ∙ sym (ap names is ∙ names_whole (devices_named file) ds);
      few =
          let n = length-map c.in-Ok.numbers (λ s. s.now) in
          let m = ap length c.in-Ok.ensures in
          let k = length-map ds name_of in
          let f = c.requires.few in
          omega arith;
    }
