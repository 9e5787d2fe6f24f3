-- Proof that `loose_link` meets its contract.
use Rattle.std.proofs.Common.{◌∙◌, ap, not, position, codes}
use Rattle.std.specs.Option.{option_map}
use Rattle.borrowed_json.specs.View.{view}
use Rattle.borrowed_json.specs.Look.{list_in}
use Rattle.file_rules.specs.Names.{devices_named}
use Rattle.file_rules.specs.Places.{item_place}
use Rattle.file_rules.specs.Seen.{are_devices}
use Rattle.file_rules.proofs.Pairing.{loose_in_file}
use Rattle.file_rules.proofs.rules.pairs.loose_link.Goals as goal

pub returns : goal.returns
returns c =
    let file = view c.args._tree.now in
    c.item.ensures ∙ ap (option_map (item_place (codes "links"))) (c.first_loose.ensures ∙ ap (position (λ p. not (are_devices p))) c.requires
    ∙ loose_in_file (devices_named file) (list_in (codes "links") file))
