-- Proof that `unformed_operation` meets its contract.
use Rattle.std.proofs.Common.{◌∙◌, Bool, ap}
use Rattle.borrowed_json.specs.View.{view}
use Rattle.file_rules.specs.Places.{first_operation}
use Rattle.file_rules.specs.Operations.{is_formed}
use Rattle.file_rules.proofs.rules.unformed_operation.Goals as goal

pub returns : goal.returns
returns c = c.first_operation.ensures ∙ ap (λ (second : Bool). first_operation (is_formed second) (view c.args.tree.now)) c.is_second.ensures
