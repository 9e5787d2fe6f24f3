-- The invariant of the loop of `all_given`.
use Rattle.std.proofs.Common.{◌≡◌, map, take}
use Rattle.borrowed_json.specs.View.{view}
use Rattle.file_rules.specs.Seen.{answer_seen, answer_written}
use Rattle.file_rules.proofs.rules.answers.all_given.Given as goal

abbrev pub invariant-loop-answer : goal.invariant-loop-answer
invariant-loop-answer l = map answer_seen l.all.items ≡ map answer_written (map view (take l.answer-index l.answers))
