-- From 10,000 on the last four digits are two pairs.
use Rattle.std.proofs.Common.{append_assoc, arith}
use Rattle.itoa.proofs.Decimal.{decimal_four, length_four}
use Rattle.log_words.proofs.digits.put_eight.Goals as goal

pub put_four-end-requires-clause-room : goal.put_four-end-requires-clause-room
put_four-end-requires-clause-room c = omega (arith, length_four c.args.number c.if-number-lt10000.false c.ranges.number.fits)

pub put_pair-end-requires-clause-room : goal.put_pair-end-requires-clause-room
put_pair-end-requires-clause-room c = omega (arith, length_four c.args.number c.if-number-lt10000.false c.ranges.number.fits)

pub put_pair-requires-clause-room : goal.put_pair-requires-clause-room
put_pair-requires-clause-room c = omega (arith, length_four c.args.number c.if-number-lt10000.false c.ranges.number.fits)

pub returns-clause-text : goal.returns-clause-text
returns-clause-text c =
    rw
    (decimal_four c.args.number c.if-number-lt10000.false c.ranges.number.fits, c.put_pair.ensures.text, c.put_pair-end.ensures.text, c.put_four-end.ensures.text)
    (simp append_assoc)

pub returns-clause-end : goal.returns-clause-end
returns-clause-end c = omega (arith, length_four c.args.number c.if-number-lt10000.false c.ranges.number.fits)
