-- Proof that `first_failing` meets its contract.
use Rattle.std.proofs.Common.{◌∙◌, sym, ap, not}
use Rattle.file_rules.specs.Places.{first_not}
use Rattle.file_rules.specs.AnswerTests.{answer_test}
use Rattle.file_rules.proofs.Looks.{position_view}
use Rattle.file_rules.proofs.rules.answers.first_failing.Goals as goal

pub returns : goal.returns
returns c =
    c.first_not.ensures ∙ sym (position_view (λ d. not (answer_test c.args.test c.args.known.now d)) c.items.result.now)
    ∙ ap (first_not (answer_test c.args.test c.args.known.now)) c.items.ensures
