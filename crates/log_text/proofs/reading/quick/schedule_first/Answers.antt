-- Proof by hand of `schedule_first`: what it returns.
use Rattle.std.proofs.Common.{arith, append_assoc}
use Rattle.log_text.proofs.reading.quick.schedule_first.Goals as goal

pub returns-clause-text : goal.returns-clause-text
returns-clause-text c = grind (arith, append_assoc)
