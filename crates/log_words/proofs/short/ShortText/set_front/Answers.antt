-- The moment has at most 20 digits, each number of the word at most 10.
use Rattle.std.proofs.Common.{ℕ, ap, decimal, length, arith}
use Rattle.log_words.proofs.Decimals.{decimal_short, decimal_short32}
use Rattle.log_words.proofs.short.ShortText.set_front.Goals as goal

pub put_byte-end-requires-3 : goal.put_byte-end-requires-3
put_byte-end-requires-3 c =
    omega (arith, decimal_short c.args.time c.ranges.time.fits, decimal_short32 c.args.inpr c.ranges.inpr.fits, ap (λ (n : ℕ). length (decimal n)) c.from.ensures)

pub put_after-end-requires-2 : goal.put_after-end-requires-2
put_after-end-requires-2 c =
    omega (arith, decimal_short c.args.time c.ranges.time.fits, decimal_short32 c.args.inpr c.ranges.inpr.fits, ap (λ (n : ℕ). length (decimal n)) c.from.ensures)

pub put_byte-self-inside-requires : goal.put_byte-self-inside-requires
put_byte-self-inside-requires c =
    omega (arith, decimal_short c.args.time c.ranges.time.fits, decimal_short32 c.args.inpr c.ranges.inpr.fits, ap (λ (n : ℕ). length (decimal n)) c.from.ensures)
