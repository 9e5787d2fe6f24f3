-- Proof that `head_broken` meets its contract.
use Rattle.std.proofs.Common.{◌∙◌, List, Option, ℕ, ap}
use Rattle.borrowed_json.specs.View.{view}
use Rattle.file_rules.specs.Broken.{place_of}
use Rattle.file_rules.specs.Form.{first_in_lists}
use Rattle.file_rules.specs.Kept.{other_forms}
use Rattle.file_rules.specs.Groups.{form_rules_by}
use Rattle.file_rules.specs.Whole.{first_of}
use Rattle.file_rules.proofs.rules.head_broken.Goals as goal

pub returns : goal.returns
returns c =
    let d = view c.args.tree.now in
    c.form_broken_by.ensures
    ∙ ap (λ (u : Option (List ℕ)). first_of (form_rules_by (λ _. u) (λ _. place_of c.other_misspelled.result)) d) c.other_unformed.ensures
    ∙ ap (λ (m : Option (List ℕ)). first_of (form_rules_by (first_in_lists other_forms) (λ _. m)) d) c.other_misspelled.ensures
