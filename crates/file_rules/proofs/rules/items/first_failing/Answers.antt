-- Proof that `first_failing` meets its contract.
use Rattle.std.proofs.Common.{◌∙◌, sym, ap, not}
use Rattle.file_rules.specs.Places.{first_not}
use Rattle.file_rules.specs.Tests.{item_test}
use Rattle.file_rules.proofs.Looks.{position_view}
use Rattle.file_rules.proofs.rules.items.first_failing.Goals as goal

pub returns : goal.returns
returns c =
    c.first_not.ensures ∙ sym (position_view (λ d. not (item_test c.args.test d)) c.items.result.now)
    ∙ ap (first_not (item_test c.args.test)) c.items.ensures
