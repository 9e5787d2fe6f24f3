-- Proof that `repeated_link` meets its contract.
use Rattle.std.proofs.Common.{◌∙◌, ap, codes}
use Rattle.std.specs.Option.{option_map}
use Rattle.file_rules.specs.Places.{item_place}
use Rattle.file_rules.proofs.Pairing.{links_again}
use Rattle.file_rules.proofs.rules.pairs.repeated_link.Goals as goal

pub returns : goal.returns
returns c = c.item.ensures ∙ ap (option_map (item_place (codes "links"))) (c.in_ok-number.ensures ∙ links_again c.args.ends.now _ c.requires)
