-- Proof that the loop of `answers_in` keeps its invariant, that it meets what `answer_in` requires, and why it stops.
use Rattle.std.proofs.Common.{arith}
use Rattle.std.proofs.lemmas.Result.{err_from_is_err_and}
use Rattle.file_rules.specs.AnswerTests.{answer_made, is_valid_answer}
use Rattle.file_rules.specs.Fitting.{FitsAnswer}
use Rattle.file_rules.proofs.Each.{value_each}
use Rattle.machine_file.proofs.Passed.{all_passed, one_more, stops_all}
use Rattle.machine_file.proofs.reading.replies.answers_in.Goals as goal

pub answer_in-requires-clause-fits : goal.answer_in-requires-clause-fits
answer_in-requires-clause-fits c = value_each FitsAnswer c.args.answers.now c.loop-answer.answer-index c.answer-item.result (omega arith) c.answer-item.is c.requires.fit

pub loop-answer-preserved : goal.loop-answer-preserved
loop-answer-preserved c = (
  all_passed (is_valid_answer c.args.known.now) c.args.answers.now c.loop-answer.answer-index c.answer-item.result (omega arith) c.answer-item.is
      c.loop-answer.invariant.0 c.in_ok-answer_in.ensures.valid,
  one_more (answer_made c.args.known.now) c.args.answers.now c.loop-answer.answer-index c.answer-item.result (omega arith) c.answer-item.is c.loop-answer.all.items c.push.new.self.items
      c.in_ok-answer_in.field-0 c.loop-answer.invariant.1 c.in_ok-answer_in.ensures.spells c.in_ok-push.ensures.items,
)

pub returns-in_err-answer_in-clause-err : goal.returns-in_err-answer_in-clause-err
returns-in_err-answer_in-clause-err c =
    let p = err_from_is_err_and c.from_residual-in_err-answer_in.result c.from_residual-in_err-answer_in.ensures.1 in
    rw (p.1, p.2) (stops_all (is_valid_answer c.args.known.now) c.args.answers.now c.loop-answer.answer-index c.answer-item.result (omega arith) c.answer-item.is _ c.in_err-answer_in.ensures.err)
