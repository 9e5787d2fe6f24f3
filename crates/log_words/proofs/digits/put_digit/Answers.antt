-- A number below 10 has one digit.
use Rattle.std.proofs.Common.{arith}
use Rattle.std.proofs.lemmas.Fmt.{decimal_digit}
use Rattle.std.proofs.lemmas.List.{take_more_set}
use Rattle.log_words.proofs.digits.put_digit.Goals as goal

pub returns-clause-text : goal.returns-clause-text
returns-clause-text c =
    rw (decimal_digit c.args.digit c.requires.digit) (take_more_set c.args.room.now c.args.used _ (omega arith))
