-- A number has at most 20 digits.
use Rattle.std.proofs.Common.{arith}
use Rattle.log_words.proofs.Decimals.{decimal_short}
use Rattle.log_words.proofs.buffer.put_digits.Goals as goal

pub put_decimal-requires : goal.put_decimal-requires
put_decimal-requires c = omega (arith, decimal_short c.args.number c.ranges.number.fits, c.told-buffer)

pub returns-clause-end : goal.returns-clause-end
returns-clause-end c = omega (arith, decimal_short c.args.number c.ranges.number.fits, c.put_decimal.ensures.end)
