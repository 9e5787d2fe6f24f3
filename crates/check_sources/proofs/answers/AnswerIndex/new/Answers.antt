-- Proof by hand of `new`: the invariants of its types, by the lemmas of `Answering`.
use Rattle.check_sources.proofs.Answering.{found}
use Rattle.check_sources.proofs.answers.AnswerIndex.new.Goals as goal

pub invariant_of-result : goal.invariant_of-result
invariant_of-result c = λ what attempt. rw (c.in_ok-places.ensures, c.in_ok-keys.ensures, c.as_slice.ensures) (found what attempt c.args.machine.now.answers)
