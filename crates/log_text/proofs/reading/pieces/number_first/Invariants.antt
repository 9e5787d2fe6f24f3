-- The bytes before the place are the digits of the number so far.
use Rattle.std.proofs.Common.{◌≡◌, decimal, take}
use Rattle.log_text.proofs.reading.pieces.number_first.Given as goal

abbrev pub invariant-loop-i : goal.invariant-loop-i
invariant-loop-i l = take l.i l.text ≡ decimal l.number
