-- The invariant of the loop of `with_passes`.
use Rattle.std.proofs.Common.{◌≤◌, ◌+◌, vec_len, vec_capacity}
use Rattle.idle_loop.proofs.Crewing.{IsManning}
use Rattle.idle_loop.proofs.burst.with_passes.Given as goal

abbrev pub invariant-loop-role : goal.invariant-loop-role
invariant-loop-role l = record {
  workers : IsManning l.fn.roles.items l.role-iterator.a.rest.items l.fn.passes.items l.role-iterator.b.rest.items l.workers.items;
  room : vec_len l.workers + l.role-iterator.a.rest.len ≤ vec_capacity l.workers;
}
