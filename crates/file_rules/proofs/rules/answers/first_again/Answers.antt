-- Proof that `first_again` meets its contract.
use Rattle.std.proofs.Common.{◌∙◌, [], not}
use Rattle.std.specs.List.{list_any}
use Rattle.file_rules.specs.Places.{first_not_after}
use Rattle.file_rules.proofs.Answered.{given_eq}
use Rattle.file_rules.proofs.rules.answers.first_again.Goals as goal

pub returns : goal.returns
returns c =
    c.first_repeated.ensures ∙ (λ i. first_not_after (λ before x. not (list_any (λ y. given_eq x y i) before)) [] 0 c.args.answers.now)
