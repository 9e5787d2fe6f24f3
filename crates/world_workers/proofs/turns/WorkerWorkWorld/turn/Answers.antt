-- Proof that `WorkerWorkWorld::turn` meets its contract.
use Rattle.std.proofs.Common.{refl}
use Rattle.world_workers.proofs.Going.{went_on}
use Rattle.world_workers.proofs.turns.WorkerWorkWorld.turn.Goals as goal

pub returns-clause-made : goal.returns-clause-made
returns-clause-made g c =
    let w = c.args.shared.now in
    went_on w.machine.now w.table.now.cells.shared.table_id w.cells.now.shared.table_id w.moment c.args.self.now _ c.taken-pass.result c.act-pass.result.pass c.requires.goes c.taken-pass.ensures refl refl
    c.act-pass.ensures
