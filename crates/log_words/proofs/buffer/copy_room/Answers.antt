-- The first bytes of the room follow those in the buffer.
use Rattle.std.proofs.Common.{◌≤◌, length, arith}
use Rattle.log_words.proofs.Buffering.{buffered_room}
use Rattle.log_words.proofs.buffer.copy_room.Goals as goal

pub returns-clause-text : goal.returns-clause-text
returns-clause-text g c =
    let within : c.args.used ≤ length c.args.buffer.now = omega arith in
    let few : c.args.len ≤ length c.args.room.now = omega arith in
    rw
    c.copy_from_slice.ensures.after
    (buffered_room c.args.buffer.now c.args.room.now c.args.used c.args.len _ within few)
