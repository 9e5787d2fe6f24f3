-- The invariant of the loop of `split`.
use Rattle.std.proofs.Common.{◌≤◌, ◌+◌, vec_len, vec_capacity}
use Rattle.idle_loop.specs.WorkerPools.{AreSplit, HavePasses}
use Rattle.idle_loop.proofs.burst.split.Given as goal

abbrev pub invariant-loop-worker : goal.invariant-loop-worker
invariant-loop-worker l =
    AreSplit l.yielded l.roles.items l.passes.items
    × HavePasses l.worker-iterator.rest.items
    × (vec_len l.roles + l.worker-iterator.rest.len ≤ vec_capacity l.roles)
    × (vec_len l.passes + l.worker-iterator.rest.len ≤ vec_capacity l.passes)
