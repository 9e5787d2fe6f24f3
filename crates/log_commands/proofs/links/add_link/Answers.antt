-- Proof by hand of `add_link`: what it returns, by the lemmas of `Trying`.
use Rattle.log_commands.proofs.Trying.{closes, passed, taken}
use Rattle.log_commands.proofs.links.add_link.Goals as goal

pub returns-in-Err-Cycle-clause-refused : goal.returns-in-Err-Cycle-clause-refused
returns-in-Err-Cycle-clause-refused c =
    let h = rw c.in-Err-Cycle.field-0-is at c.in-Err-Cycle.ensures.answer in
    closes c.args.links.now c.args.supplier c.args.consumer c.requires.stands h.0 _ h.1

pub returns-in-Ok-clause-taken : goal.returns-in-Ok-clause-taken
returns-in-Ok-clause-taken c =
    taken c.args.links.now c.args.supplier c.args.consumer c.requires.stands c.add.new.self c.in-Ok.ensures.ok c.in-Ok.ensures.answer.0 c.in-Ok.ensures.answer.1

pub returns-in-Err-Twice-clause-taken : goal.returns-in-Err-Twice-clause-taken
returns-in-Err-Twice-clause-taken c =
    let h = rw c.in-Err-Twice.field-0-is at c.in-Err-Twice.ensures.answer in
    passed c.args.links.now c.args.supplier c.args.consumer c.requires.stands c.add.new.self c.in-Err-Twice.ensures.err h.1 h.2
