-- The invariant of the loop of `word64`.
use Rattle.std.proofs.Common.{◌≡◌, true, drop}
use Rattle.sleep_model.specs.Fits.{is_word64}
use Rattle.log_text.specs.Cutting.{word64, number_after}
use Rattle.log_text.proofs.reading.number.word64.Given as goal

-- the digits that are left go on from the number so far, which has 64 bits
abbrev pub invariant-loop-byte : goal.invariant-loop-byte
invariant-loop-byte l = (word64 l.text ≡ number_after l.number (drop l.byte-index l.text)) × (is_word64 l.number ≡ true)
