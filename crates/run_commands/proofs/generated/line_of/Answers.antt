-- Proof that `line_of` meets its contract.
use Rattle.run_commands.proofs.Generating.{line_text}
use Rattle.run_commands.proofs.generated.line_of.Goals as goal

pub returns : goal.returns
returns g c =
    line_text c.args.seed c.args.devices c.in_ok-machine.machine c.in-Ok.log c.counts_of-counts.result c.is_stuck-stuck.result c.in_ok-text.text.items
    c.in_ok-machine.ensures.machine c.in-Ok.ensures c.is_stuck-stuck.ensures c.counts_of-counts.ensures c.in_ok-text.ensures
