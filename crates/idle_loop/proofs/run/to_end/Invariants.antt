-- The invariant of the loop of `to_end`.
use Rattle.idle_loop.specs.WorkerPools.{IsWorkerPool}
use Rattle.idle_loop.proofs.run.to_end.Given as goal

abbrev pub invariant-loop : goal.invariant-loop
invariant-loop g l = record {
  can_next : (goal.iterator-loop g).can_next l.iterator';
  ends : (goal.iterator-loop g).is_finite l.iterator';
  pool : IsWorkerPool l.sizes l.table.cells.shared.table_id l.pool;
}
