-- Proof that `write_generated` meets its contract.
use Rattle.program_ending.specs.Streams.{stream}
use Rattle.run_commands.proofs.Generating.{gen_ended}
use Rattle.run_commands.proofs.generated.write_generated.Goals as goal

pub returns-in-Ok : goal.returns-in-Ok
returns-in-Ok g c =
    gen_ended c.args.seed c.args.devices (stream (g.K.ByteSink.written c.args.out.now) (g.K.ByteSink.faults c.args.out.now))
    (stream (g.K.ByteSink.written c.write_run_text.new.out) (g.K.ByteSink.faults c.write_run_text.new.out)) c.in-Ok.text.items c.write_run_text.result c.in-Ok.ensures c.write_run_text.ensures
