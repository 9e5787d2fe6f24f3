-- The bytes follow those in the buffer.
use Rattle.std.proofs.Common.{◌≤◌, ◌∙◌, length, length-append, take, ap, sym, arith}
use Rattle.log_words.proofs.Buffering.{buffered_bytes}
use Rattle.log_words.proofs.buffer.ByteBuffer.put.Goals as goal

pub returns-clause-text : goal.returns-clause-text
returns-clause-text c =
    let within : c.self.inside.used ≤ length c.self.inside.room = omega (arith, c.self.invariant, c.self.told) in
    rw
    (c.copy_from_slice.ensures.after, sym c.self.view_is)
    (buffered_bytes c.self.inside.room c.args.bytes.now c.self.inside.used _ within)

pub returns-clause-len : goal.returns-clause-len
returns-clause-len c =
    let within : c.self.inside.used ≤ length c.self.inside.room = omega (arith, c.self.invariant, c.self.told) in
    rw
    (c.copy_from_slice.ensures.after, sym c.self.view_is)
    (ap length (buffered_bytes c.self.inside.room c.args.bytes.now c.self.inside.used _ within) ∙ length-append (take c.self.inside.used c.self.inside.room) c.args.bytes.now)
