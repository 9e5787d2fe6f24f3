-- Proof that `form_broken` meets its contract.
use Rattle.std.proofs.Common.{◌∙◌, List, Option, ℕ, ap}
use Rattle.borrowed_json.specs.View.{view}
use Rattle.file_rules.specs.Broken.{place_of}
use Rattle.file_rules.specs.Form.{unformed_item}
use Rattle.file_rules.specs.Groups.{form_rules_by}
use Rattle.file_rules.specs.Whole.{first_of}
use Rattle.file_rules.proofs.rules.form_broken.Goals as goal

pub returns : goal.returns
returns c =
    let d = view c.args.tree.now in
    c.form_broken_by.ensures
    ∙ ap (λ (u : Option (List ℕ)). first_of (form_rules_by (λ _. u) (λ _. place_of c.misspelled_item.result)) d) c.unformed_item.ensures
    ∙ ap (λ (m : Option (List ℕ)). first_of (form_rules_by (unformed_item) (λ _. m)) d) c.misspelled_item.ensures
