-- The invariant of the loop of `workers_of`.
use Rattle.std.proofs.Common.{◌≡◌, ◌≤◌, ◌+◌, ◌++◌, List, length, vec_len, vec_capacity}
use Rattle.turn_lock.specs.declared.table.Pass.{Pass}
use Rattle.run_laws.specs.Passes.{Noted}
use Rattle.run_world.specs.declared.object.WorldObject.{WorldObject}
use Rattle.world_workers.specs.Bursts.{HaveTurns}
use Rattle.world_workers.specs.Workers.{AreFresh, AreContents}
use Rattle.world_workers.proofs.pool.workers_of.Given as goal

abbrev pub invariant-loop-task : goal.invariant-loop-task
invariant-loop-task l =
    ((lent : List (Pass WorldObject Noted)) × (l.fn.passes.items ≡ lent ++ l.left.rest.items) × AreContents l.workers.items lent l.yielded)
    × AreFresh l.fn.moment l.workers.items
    × (l.left.rest.len ≡ length l.left.rest.items)
    × (l.fn.tasks.items ≡ l.yielded ++ l.task-iterator.rest.items)
    × (l.task-iterator.rest.len ≡ length l.task-iterator.rest.items)
    × HaveTurns l.task-iterator.rest.items
    × (vec_len l.workers + l.task-iterator.rest.len ≤ vec_capacity l.workers)
