-- The digits follow the first bytes.
use Rattle.std.proofs.Common.{◌≡◌, ◌≤◌, length, decimal, arith}
use Rattle.log_words.proofs.Buffering.{held_digits}
use Rattle.log_words.proofs.digits.put_long.Goals as goal

pub returns-clause-text : goal.returns-clause-text
returns-clause-text c =
    let start : c.write_digits.result ≡ c.args.used = omega (arith, c.write_digits.ensures.start, c.digits_of.ensures) in
    let within : c.args.used ≤ length c.args.room.now = omega (arith, c.requires) in
    rw c.digits_of.ensures
    (held_digits c.args.room.now c.write_digits.new.buf (decimal c.args.number) _ c.args.used within
    (rw start at c.write_digits.ensures.before) (rw start at c.write_digits.ensures.written))
