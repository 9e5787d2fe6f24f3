-- The whole input was read and the answers were written, or it was not read.
use Rattle.std.proofs.Common.{List, ℕ, refl, subst, sym}
use Rattle.program_ending.specs.declared.refusal.Refusal.TheVariants.{LongLocks}
use Rattle.lock_commands.specs.Command.{IsLocksOf, RefusesLocks}
use Rattle.program_ending.specs.Streams.{ReadWhole, Streams, stream, streams}
use Rattle.program_ending.proofs.CommandEndings.{read_outcome, unread_outcome}
use Rattle.lock_commands.proofs.command.write_locks.Goals as goal

pub returns-in-Ok : goal.returns-in-Ok
returns-in-Ok g c =
    let old : Streams = streams (stream (g.S.ByteSource.left c.args.input.now) (g.S.ByteSource.faults c.args.input.now)) (stream (g.K.ByteSink.written c.args.out.now) (g.K.ByteSink.faults c.args.out.now)) in
    let new : Streams = streams (stream (g.S.ByteSource.left c.read_input.new.input) (g.S.ByteSource.faults c.read_input.new.input)) (stream (g.K.ByteSink.written c.write_result.new.out) (g.K.ByteSink.faults c.write_result.new.out)) in
    let read = subst (λ (bs : List ℕ). ReadWhole 16777216 old.input new.input bs) (sym c.deref.ensures.value) c.in-Ok.ensures in
    read_outcome 16777216 LongLocks IsLocksOf RefusesLocks old new c.deref.result.now c.locks_of.result c.write_result.result read c.locks_of.ensures.text_answer c.locks_of.ensures.refused c.write_result.ensures

pub returns-in-Err : goal.returns-in-Err
returns-in-Err g c =
    let out = stream (g.K.ByteSink.written c.args.out.now) (g.K.ByteSink.faults c.args.out.now) in
    let old : Streams = streams (stream (g.S.ByteSource.left c.args.input.now) (g.S.ByteSource.faults c.args.input.now)) out in
    let new : Streams = streams (stream (g.S.ByteSource.left c.read_input.new.input) (g.S.ByteSource.faults c.read_input.new.input)) out in
    unread_outcome 16777216 LongLocks IsLocksOf RefusesLocks old new c.in-Err.ending c.in-Err.ensures refl
