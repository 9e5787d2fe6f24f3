-- Proof that `first_in_script` meets its contract.
use Rattle.std.proofs.Common.{◌∙◌, sym, ap, not}
use Rattle.borrowed_json.specs.View.{view}
use Rattle.file_rules.specs.Places.{first_not}
use Rattle.file_rules.specs.OperationRows.{operation_test}
use Rattle.file_rules.proofs.Looks.{position_view}
use Rattle.file_rules.proofs.rules.operations.first_in_script.Goals as goal

pub returns : goal.returns
returns c =
    c.first_not.ensures ∙ sym (position_view (λ d. not (operation_test c.args.test c.args.known.now (view c.args.actor.now) d)) c.list_in.result.now)
    ∙ ap (first_not (operation_test c.args.test c.args.known.now (view c.args.actor.now))) c.list_in.ensures
