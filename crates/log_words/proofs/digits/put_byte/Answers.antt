-- The byte follows the first bytes.
use Rattle.std.proofs.Common.{arith}
use Rattle.std.proofs.lemmas.List.{take_more_set}
use Rattle.log_words.proofs.digits.put_byte.Goals as goal

pub returns-clause-text : goal.returns-clause-text
returns-clause-text c = take_more_set c.args.room.now c.args.used _ (omega arith)
