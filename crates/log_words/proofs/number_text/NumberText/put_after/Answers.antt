-- The number has at most 10 digits.
use Rattle.std.proofs.Common.{arith}
use Rattle.log_words.proofs.number_text.NumberText.put_after.Goals as goal

pub returns-clause-end : goal.returns-clause-end
returns-clause-end c = omega (arith, c.args.self.now.few)
