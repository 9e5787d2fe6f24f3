-- Proof that `act_job` meets its contract.
use Rattle.run_world.specs.declared.task.Task.TheVariants as task
use Rattle.world_workers.proofs.Acting.{acted_still}
use Rattle.world_workers.proofs.acts.act_job.Goals as goal

pub returns-in-Nothing : goal.returns-in-Nothing
returns-in-Nothing g c =
    let w = c.args.world.now in
    acted_still w.machine.now w.table.now.cells.shared.table_id w.cells.now.shared.table_id w.moment (task.Acts c.args.job.now) c.args.pass.token c.requires.goes
