-- Proof that `deviceless_operation` meets its contract.
use Rattle.std.proofs.Common.{◌∙◌, List, ℕ, ap}
use Rattle.borrowed_json.specs.View.{view}
use Rattle.serde_json.specs.Data.{Data}
use Rattle.file_rules.specs.Places.{first_operation}
use Rattle.file_rules.specs.Operations.{names_device}
use Rattle.file_rules.proofs.rules.deviceless_operation.Goals as goal

pub returns : goal.returns
returns c = c.first_operation.ensures ∙ ap (λ (ns : List (List ℕ)). first_operation (λ (actor : Data). names_device ns) (view c.args.tree.now)) c.requires.devices
