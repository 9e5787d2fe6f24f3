-- Proof by hand of `write_idle`: what it returns, by the lemmas of `Idling`.
use Rattle.program_ending.specs.Streams.{stream}
use Rattle.idle_commands.proofs.Idling.{idle_written}
use Rattle.idle_commands.proofs.command.write_idle.Goals as goal

pub returns-in-Ok : goal.returns-in-Ok
returns-in-Ok g c =
    idle_written c.args.sizes (stream (g.K.ByteSink.written c.args.out.now) (g.K.ByteSink.faults c.args.out.now))
    (stream (g.K.ByteSink.written c.write_run_text.new.out) (g.K.ByteSink.faults c.write_run_text.new.out)) c.in-Ok.text.items c.write_run_text.result c.in-Ok.ensures.text c.write_run_text.ensures
