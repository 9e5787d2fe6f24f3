-- A number below 10 has one digit.
use Rattle.std.proofs.Common.{arith}
use Rattle.itoa.proofs.Decimal.{length_one}
use Rattle.log_words.proofs.digits.put_decimal.Goals as goal

pub put_digit-requires-clause-room : goal.put_digit-requires-clause-room
put_digit-requires-clause-room c = omega (arith, length_one c.args.number c.if-number-lt10.true)

pub returns-then-number-lt10-clause-end : goal.returns-then-number-lt10-clause-end
returns-then-number-lt10-clause-end c = omega (arith, length_one c.args.number c.if-number-lt10.true)
