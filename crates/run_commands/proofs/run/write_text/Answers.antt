-- Proof that `write_text` meets its contract.
use Rattle.std.proofs.Common.{◌∙◌, ap, sym, subst}
use Rattle.program_ending.specs.declared.ending.Ending.{Ending}
use Rattle.program_ending.specs.Streams.{Stream, stream}
use Rattle.run_commands.specs.Endings.{WritesText, ending_of, is_stuck}
use Rattle.run_commands.proofs.Writing.{text_written}
use Rattle.run_commands.proofs.run.write_text.Goals as goal

pub returns : goal.returns
returns g c =
    let old : Stream = stream (g.K.ByteSink.written c.args.out.now) (g.K.ByteSink.faults c.args.out.now) in
    let new : Stream = stream (g.K.ByteSink.written c.write_to.new.sink) (g.K.ByteSink.faults c.write_to.new.sink) in
    subst (λ (ending : Ending). WritesText c.args.machine.now c.args.log.now old new ending)
    (sym (c.ending_of.ensures ∙ ap (ending_of c.write_to.result) (c.is_stuck.ensures ∙ ap is_stuck c.end.ensures)))
    (text_written c.args.machine.now c.args.log.now old new c.in-Ok.text c.write_to.result c.in-Ok.ensures c.write_to.ensures.bytes)
