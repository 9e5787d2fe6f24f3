-- Proof that `unformed_link` meets its contract.
use Rattle.std.proofs.Common.{◌∙◌, Bool, ap, codes}
use Rattle.borrowed_json.specs.View.{view}
use Rattle.file_rules.specs.Places.{first_item}
use Rattle.file_rules.specs.Form.{is_link_form}
use Rattle.file_rules.proofs.rules.items.unformed_link.Goals as goal

pub returns : goal.returns
returns c = c.first_item.ensures ∙ ap (λ (second : Bool). first_item (codes "links") (is_link_form second) (view c.args.tree.now)) c.is_second.ensures
