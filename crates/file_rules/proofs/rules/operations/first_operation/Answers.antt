-- Proof that `first_operation` meets its contract.
use Rattle.std.proofs.Common.{◌∙◌, ap}
use Rattle.file_rules.specs.Places.{first_operation_of}
use Rattle.file_rules.specs.OperationRows.{operation_test}
use Rattle.file_rules.proofs.rules.operations.first_operation.Goals as goal

pub returns : goal.returns
returns c = c.first_of_actors.ensures ∙ ap (first_operation_of (operation_test c.args.test c.args.known.now) 0) c.items.ensures
