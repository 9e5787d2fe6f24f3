-- Proof that `known_in` meets its contract.
use Rattle.std.proofs.Common.{◌∙◌, ap, codes}
use Rattle.borrowed_json.specs.View.{view}
use Rattle.file_rules.specs.Knows.{names}
use Rattle.borrowed_json.specs.Look.{list_in}
use Rattle.file_rules.specs.Names.{devices_named}
use Rattle.file_rules.proofs.Registering.{names_whole}
use Rattle.file_rules.proofs.names.known.known_in.Goals as goal

pub returns : goal.returns
returns c =
    let file = view c.args.tree.now in
    record {
      registered = c.requires;
      devices = ap names c.requires ∙ names_whole (devices_named file) (list_in (codes "devices") file);
      syscore = c.in-Ok.ensures;
      notifiers = c.in-Ok-named_in.ensures;
      sources = c.in-Ok-listed_names.ensures;
      marks = c.in-Ok-marked_in.ensures;
    }
