-- The whole input gave a run, and its log was written as it says.
use Rattle.program_ending.specs.Streams.{Streams, stream, streams}
use Rattle.run_commands.proofs.Filling.{ended_with}
use Rattle.run_commands.proofs.run.run_file.Goals as goal

pub returns-in-Ok-run_of_bytes : goal.returns-in-Ok-run_of_bytes
returns-in-Ok-run_of_bytes g c =
    let old : Streams = streams (stream (g.S.ByteSource.left c.args.input.now) (g.S.ByteSource.faults c.args.input.now)) (stream (g.K.ByteSink.written c.args.out.now) (g.K.ByteSink.faults c.args.out.now)) in
    let new : Streams = streams (stream (g.S.ByteSource.left c.read_input.new.input) (g.S.ByteSource.faults c.read_input.new.input)) (stream (g.K.ByteSink.written c.write_log.new.out) (g.K.ByteSink.faults c.write_log.new.out)) in
    ended_with old new c.in-Ok.bytes.items c.in-Ok-run_of_bytes.ran c.write_log.result c.in-Ok.ensures c.in-Ok-run_of_bytes.ensures c.write_log.ensures
