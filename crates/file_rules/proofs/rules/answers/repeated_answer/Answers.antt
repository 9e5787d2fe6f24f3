-- Proof that `repeated_answer` meets its contract.
use Rattle.std.proofs.Common.{◌∙◌, ap, map, codes}
use Rattle.std.specs.Option.{option_map}
use Rattle.file_rules.specs.Places.{item_place}
use Rattle.file_rules.specs.Seen.{answer_seen, answer_written}
use Rattle.file_rules.proofs.Answered.{answers_again}
use Rattle.file_rules.proofs.rules.answers.repeated_answer.Goals as goal

pub returns : goal.returns
returns c =
    c.item.ensures ∙ ap (option_map (item_place (codes "answers"))) (c.first_again-number.ensures
    ∙ answers_again c.in_ok-answers-2.answers _ (ap (map answer_seen) c.in_ok-answers-2.ensures ∙ c.in_ok-answers.ensures ∙ ap (map answer_written) c.items.ensures))
