-- From 100 on the last two digits are a pair.
use Rattle.std.proofs.Common.{append_assoc, arith}
use Rattle.itoa.proofs.Decimal.{decimal_pair, length_pair}
use Rattle.log_words.proofs.digits.put_four.Goals as goal

pub put_two-end-requires-clause-room : goal.put_two-end-requires-clause-room
put_two-end-requires-clause-room c = omega (arith, length_pair c.args.number c.if-number-lt100.false c.ranges.number.fits)

pub put_pair-requires-clause-room : goal.put_pair-requires-clause-room
put_pair-requires-clause-room c = omega (arith, length_pair c.args.number c.if-number-lt100.false c.ranges.number.fits)

pub returns-clause-text : goal.returns-clause-text
returns-clause-text c =
    rw (decimal_pair c.args.number c.if-number-lt100.false c.ranges.number.fits, c.put_pair.ensures.text, c.put_two-end.ensures.text) (simp append_assoc)

pub returns-clause-end : goal.returns-clause-end
returns-clause-end c = omega (arith, length_pair c.args.number c.if-number-lt100.false c.ranges.number.fits)
