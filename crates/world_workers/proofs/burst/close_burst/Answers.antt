-- Proof that `close_burst` meets its contract, and that it meets what `close_world` requires.
use Rattle.world_workers.proofs.Bursting.{ended, passes_back, world_first}
use Rattle.world_workers.proofs.burst.close_burst.Goals as goal

pub close_world-requires-clause-passes : goal.close_world-requires-clause-passes
close_world-requires-clause-passes c =
    let locks = c.args.locks in
    passes_back c.requires.ran.0 locks.own locks.cells.shared.table_id c.args.workers.items c.requires.ran.1 c.in-Ok.brought.passes.items c.in-Ok.brought.tasks.items c.in-Ok.ensures

pub close_world-requires-clause-objects : goal.close_world-requires-clause-objects
close_world-requires-clause-objects c =
    let locks = c.args.locks in
    let b = c.requires.ran.0 in
    let ran = c.requires.ran.1 in
    (b.machine, b.table, b.moment, world_first b locks.own locks.cells.shared.table_id ran.before ran.opened)

pub returns-clause-ended : goal.returns-clause-ended
returns-clause-ended c b ran =
    let locks = c.args.locks in
    let back = c.in-Ok-close_world in
    ended b locks.own locks.cells.shared.table_id c.args.workers.items ran c.in-Ok.brought.passes.items c.in-Ok.brought.tasks.items c.in-Ok.ensures back.core back.sources.items back.ensures.closed back.ensures.kept.1
