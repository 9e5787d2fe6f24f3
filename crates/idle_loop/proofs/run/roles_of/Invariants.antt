-- The invariant of the loop of `roles_of`.
use Rattle.std.proofs.Common.{◌≡◌, ◌≤◌, ◌+◌, ◌++◌, [], length, vec_len, vec_capacity}
use Rattle.idle_loop.specs.WorkerPools.{AreRoles}
use Rattle.idle_loop.proofs.run.roles_of.Given as goal

abbrev pub invariant-loop-seat : goal.invariant-loop-seat
invariant-loop-seat l = record {
  roles : AreRoles l.sizes l.table.cells.shared.table_id [] 0 l.roles.items;
  long : length l.roles.items ≡ length l.yielded;
  whole : l.yielded ++ l.seat-iterator.rest.items ≡ l.fn.seats.items;
  room : vec_len l.roles + l.seat-iterator.rest.len + 1 ≤ vec_capacity l.roles;
}
