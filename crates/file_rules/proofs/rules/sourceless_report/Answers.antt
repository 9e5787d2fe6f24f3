-- Proof that `sourceless_report` meets its contract.
use Rattle.std.proofs.Common.{◌∙◌, List, ℕ, ap, codes}
use Rattle.std.specs.List.{list_all}
use Rattle.borrowed_json.specs.View.{view}
use Rattle.serde_json.specs.Data.{Data}
use Rattle.borrowed_json.specs.Look.{list_in}
use Rattle.file_rules.specs.Places.{first_item}
use Rattle.file_rules.specs.Operations.{names_source}
use Rattle.file_rules.proofs.rules.sourceless_report.Goals as goal

pub returns : goal.returns
returns c =
    c.first_answer.ensures
    ∙ ap (λ (ns : List (List ℕ)). first_item (codes "answers") (λ (a : Data). list_all (names_source ns) (list_in (codes "reports") a)) (view c.args.tree.now)) c.requires.sources
