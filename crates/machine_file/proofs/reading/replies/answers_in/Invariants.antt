-- The invariant of the loop of `answers_in`.
use Rattle.std.proofs.Common.{◌≡◌, map, take, true}
use Rattle.std.specs.List.{list_all}
use Rattle.borrowed_json.specs.View.{view}
use Rattle.file_rules.specs.AnswerTests.{answer_made, is_valid_answer}
use Rattle.machine_file.proofs.reading.replies.answers_in.Given as goal

abbrev pub invariant-loop-answer : goal.invariant-loop-answer
invariant-loop-answer l =
    (list_all (is_valid_answer l.known) (map view (take l.answer-index l.answers)) ≡ true)
    × (l.all.items ≡ map (answer_made l.known) (map view (take l.answer-index l.answers)))
