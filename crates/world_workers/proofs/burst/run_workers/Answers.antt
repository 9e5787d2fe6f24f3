-- Proof that `run_workers` meets its contract, and that it meets what `burst` requires.
use Rattle.world_workers.proofs.Pools.{all_workers, each_left, each_worker}
use Rattle.world_workers.proofs.burst.run_workers.Goals as goal

pub burst-requires-clause-left : goal.burst-requires-clause-left
burst-requires-clause-left g c κs within =
    let plan = c.args.plan.now in
    each_left plan.machine.now plan.table.now.cells.shared.table_id c.args.cells.now.shared.table_id c.args.moment c.args.workers.now c.requires.fresh

pub burst-requires-clause-goes : goal.burst-requires-clause-goes
burst-requires-clause-goes g c κs within =
    let plan = c.args.plan.now in
    each_worker plan.machine.now plan.table.now.cells.shared.table_id c.args.cells.now.shared.table_id c.args.moment c.args.workers.now c.requires.goes

pub returns-clause-goes : goal.returns-clause-goes
returns-clause-goes g c =
    let plan = c.args.plan.now in
    all_workers plan.machine.now plan.table.now.cells.shared.table_id c.args.cells.now.shared.table_id c.args.moment c.burst.new.jobs c.burst.ensures.goes
