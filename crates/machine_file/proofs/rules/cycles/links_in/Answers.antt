-- Proof that `links_in` meets its contract, and that it meets what `links_of` requires.
use Rattle.std.proofs.Common.{◌∙◌, List, length, sym, ap, codes}
use Rattle.std.proofs.lemmas.List.{length-map}
use Rattle.file_rules.specs.declared.rules.pairs.EndNumbers.{EndNumbers}
use Rattle.borrowed_json.specs.View.{view}
use Rattle.serde_json.specs.Data.{Data}
use Rattle.borrowed_json.specs.Look.{list_in}
use Rattle.file_rules.specs.Names.{devices_named}
use Rattle.file_rules.specs.Seen.{links_between}
use Rattle.file_rules.proofs.Pairing.{as_many, all_between}
use Rattle.machine_file.proofs.rules.cycles.links_in.Goals as goal

pub links_of-requires : goal.links_of-requires
links_of-requires c = as_many _ _ _ c.requires ∙ ap (length {A = Data}) (sym c.items.ensures) ∙ length-map _ view

pub returns : goal.returns
returns c =
    let file = view c.args.tree.now in
    let names = devices_named file in
    let ds = list_in (codes "links") file in
    c.in_ok-links.ensures ∙ ap (links_between c.args.places.now) c.items.ensures ∙ ap (λ (ps : List EndNumbers). links_between ps ds) c.requires ∙ all_between names ds
