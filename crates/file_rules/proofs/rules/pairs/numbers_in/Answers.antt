-- Proof that `numbers_in` meets its contract.
use Rattle.std.proofs.Common.{◌∙◌, List, ℕ, ap, map, codes}
use Rattle.borrowed_json.specs.View.{view}
use Rattle.borrowed_json.specs.Look.{list_in}
use Rattle.file_rules.specs.Knows.{names}
use Rattle.file_rules.specs.Seen.{ends_written, end_numbers}
use Rattle.file_rules.proofs.rules.pairs.numbers_in.Goals as goal

pub returns : goal.returns
returns c =
    c.in_ok-places.ensures ∙ ap (map (end_numbers (names c.args.known.now.devices))) c.requires.ends
    ∙ ap (λ (ns : List (List ℕ)). map (end_numbers ns) (map ends_written (list_in (codes "links") (view c.args._tree.now)))) c.requires.knows.devices
