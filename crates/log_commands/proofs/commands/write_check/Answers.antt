-- The whole input was read and its text was written, or it was not read.
use Rattle.std.proofs.Common.{List, ℕ, refl, subst, sym}
use Rattle.program_ending.specs.Streams.{ReadWhole, Streams, stream, streams}
use Rattle.log_commands.proofs.Checking.{check_read, check_unread}
use Rattle.log_commands.proofs.commands.write_check.Goals as goal

pub returns-in-Ok : goal.returns-in-Ok
returns-in-Ok g c =
    let old : Streams = streams (stream (g.S.ByteSource.left c.args.input.now) (g.S.ByteSource.faults c.args.input.now)) (stream (g.K.ByteSink.written c.args.out.now) (g.K.ByteSink.faults c.args.out.now)) in
    let new : Streams = streams (stream (g.S.ByteSource.left c.read_input.new.input) (g.S.ByteSource.faults c.read_input.new.input)) (stream (g.K.ByteSink.written c.write_verdict.new.out) (g.K.ByteSink.faults c.write_verdict.new.out)) in
    let read = subst (λ (bs : List ℕ). ReadWhole 268435456 old.input new.input bs) (sym c.deref.ensures.value) c.in-Ok.ensures in
    check_read old new c.deref.result.now c.judge.result c.write_verdict.result read c.judge.ensures.judged c.judge.ensures.refused c.write_verdict.ensures

pub returns-in-Err : goal.returns-in-Err
returns-in-Err g c =
    let out = stream (g.K.ByteSink.written c.args.out.now) (g.K.ByteSink.faults c.args.out.now) in
    let old : Streams = streams (stream (g.S.ByteSource.left c.args.input.now) (g.S.ByteSource.faults c.args.input.now)) out in
    let new : Streams = streams (stream (g.S.ByteSource.left c.read_input.new.input) (g.S.ByteSource.faults c.read_input.new.input)) out in
    check_unread old new c.in-Err.ending c.in-Err.ensures refl
