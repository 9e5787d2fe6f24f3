-- Proof that the loop of `taken_apart` keeps its invariant, and that there is room.
use Rattle.std.proofs.Common.{List, [], ◌∷◌, ◌++◌, ◌∙◌, sym, ap, subst, arith}
use Rattle.run_world.specs.declared.task.Task.{Task}
use Rattle.world_workers.specs.declared.worker.Worker.{Worker}
use Rattle.world_workers.specs.Workers.{AreWorkersOf}
use Rattle.world_workers.proofs.Pools.{parts_pushed}
use Rattle.world_workers.proofs.pool.taken_apart.Goals as goal

pub push_reserved-requires : goal.push_reserved-requires
push_reserved-requires c = omega (arith, c.loop-worker.invariant.2, c.in-Some.ensures.steps.1)

pub push_reserved-requires-in-loop-worker : goal.push_reserved-requires-in-loop-worker
push_reserved-requires-in-loop-worker c = omega (arith, c.loop-worker.invariant.3, c.in-Some.ensures.steps.1)

pub loop-worker-preserved : goal.loop-worker-preserved
loop-worker-preserved c =
    let l = c.loop-worker in
    let is = l.invariant in
    let parts = c.into_components-pass in
    let tasks_are = c.push_reserved-in-loop-worker.ensures.items ∙ ap (λ (t : Task). l.brought.tasks.items ++ t ∷ []) (sym parts.ensures.task) in (
      parts_pushed l.yielded l.brought.passes.items c.push_reserved.new.self.items l.brought.tasks.items c.push_reserved-in-loop-worker.new.self.items c.in-Some.worker is.0
          (parts.result.0, parts.ensures.pass, c.push_reserved.ensures.items) tasks_are,
      (is.1.0, is.1.1, is.1.2, is.1.3, (subst (λ (l : List Worker). AreWorkersOf is.1.0 is.1.1 is.1.2 is.1.3 l) c.in-Some.ensures.steps.0 is.1.4).1),
      omega (arith, is.2, c.in-Some.ensures.steps.1, c.push_reserved.ensures.len, c.push_reserved.ensures.capacity),
      omega (arith, is.3, c.in-Some.ensures.steps.1, c.push_reserved-in-loop-worker.ensures.len, c.push_reserved-in-loop-worker.ensures.capacity),
    )
