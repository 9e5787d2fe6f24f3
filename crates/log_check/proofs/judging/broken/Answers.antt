-- Proof by hand of `broken`: what it returns, by the lemmas of `Next`.
use Rattle.check_past.specs.Passing.{past_of}
use Rattle.log_check.proofs.Next.{keeps_next}
use Rattle.log_check.proofs.judging.broken.Goals as goal

pub returns-in-Ok-true : goal.returns-in-Ok-true
returns-in-Ok-true c = keeps_next c.args.past.now.machine (past_of c.args.past.now) c.args.e c.requires.kept (c.in-Ok-true.ensures.0 c.in-Ok-true.field-0-test)
