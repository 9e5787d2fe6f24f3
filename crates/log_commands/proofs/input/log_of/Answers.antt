-- Proof by hand of `log_of`: what it returns.
use Rattle.file_read_back.proofs.Naming.{machines_named}
use Rattle.log_commands.proofs.input.log_of.Goals as goal

pub returns-in-Err-Line-clause-refused : goal.returns-in-Err-Line-clause-refused
returns-in-Err-Line-clause-refused c =
    let bad = rw c.in-Err-Line.field-0-is at c.in-Err-Line.ensures.line in bad (machines_named c.args.machine.now c.requires)
