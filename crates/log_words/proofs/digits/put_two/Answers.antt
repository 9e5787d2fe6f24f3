-- A number below 10 has one digit, else the two of the pair.
use Rattle.std.proofs.Common.{arith}
use Rattle.itoa.proofs.Decimal.{decimal_two, length_one, length_two}
use Rattle.log_words.proofs.digits.put_two.Goals as goal

pub put_digit-requires-clause-room : goal.put_digit-requires-clause-room
put_digit-requires-clause-room c = omega (arith, length_one c.args.number c.if-number-lt10.true)

pub returns-then-number-lt10-clause-end : goal.returns-then-number-lt10-clause-end
returns-then-number-lt10-clause-end c = omega (arith, length_one c.args.number c.if-number-lt10.true)

pub put_pair-requires-clause-room : goal.put_pair-requires-clause-room
put_pair-requires-clause-room c = omega (arith, length_two c.args.number c.if-number-lt10.false c.requires.number)

pub returns-else-number-lt10-clause-text : goal.returns-else-number-lt10-clause-text
returns-else-number-lt10-clause-text c =
    rw (decimal_two c.args.number c.if-number-lt10.false c.requires.number) c.put_pair.ensures.text

pub returns-else-number-lt10-clause-end : goal.returns-else-number-lt10-clause-end
returns-else-number-lt10-clause-end c = omega (arith, length_two c.args.number c.if-number-lt10.false c.requires.number)
