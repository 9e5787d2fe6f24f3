-- The invariant of the loop of `keys_of`.
use Rattle.std.proofs.Common.{◌≡◌, map, take}
use Rattle.check_sources.specs.AnswerKeys.{answer_key}
use Rattle.check_sources.proofs.answers.keys_of.Given as goal

abbrev pub invariant-loop-answer : goal.invariant-loop-answer
invariant-loop-answer l = l.keys.items ≡ map answer_key (take l.answer-index l.answers)
