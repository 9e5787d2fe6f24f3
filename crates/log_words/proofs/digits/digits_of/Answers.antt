-- A number has at most 20 digits, and one from 10 on has one more than its tenth part.
use Rattle.std.proofs.Common.{arith}
use Rattle.itoa.proofs.Decimal.{length_one}
use Rattle.log_words.proofs.Decimals.{decimal_short, length_step}
use Rattle.log_words.proofs.digits.digits_of.Goals as goal

pub overflow_add-count : goal.overflow_add-count
overflow_add-count c = omega (arith, c.loop-left.invariant, decimal_short c.args.number c.ranges.number.fits)

pub loop-left-preserved : goal.loop-left-preserved
loop-left-preserved c = omega (arith, c.loop-left.invariant, length_step c.loop-left.left c.loop-left-test.true c.loop-left.auto.left-fits.fits)

pub returns : goal.returns
returns c = omega (arith, c.loop-left.invariant, length_one c.loop-left.left c.loop-left-test.false)
