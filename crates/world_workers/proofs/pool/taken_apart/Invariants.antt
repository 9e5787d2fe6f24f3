-- The invariant of the loop of `taken_apart`.
use Rattle.std.proofs.Common.{ℕ, ◌≤◌, ◌+◌, vec_len, vec_capacity}
use Rattle.sleep_model.specs.declared.machine.Machine.{Machine}
use Rattle.atomic_table.specs.Seated.{TableId}
use Rattle.world_workers.specs.Workers.{AreContents, AreWorkersOf}
use Rattle.world_workers.proofs.pool.taken_apart.Given as goal

abbrev pub invariant-loop-worker : goal.invariant-loop-worker
invariant-loop-worker l =
    AreContents l.yielded l.brought.passes.items l.brought.tasks.items
    × ((m : Machine) × (table : TableId) × (locks : TableId) × (moment : ℕ) × AreWorkersOf m table locks moment l.worker-iterator.rest.items)
    × (vec_len l.brought.passes + l.worker-iterator.rest.len ≤ vec_capacity l.brought.passes)
    × (vec_len l.brought.tasks + l.worker-iterator.rest.len ≤ vec_capacity l.brought.tasks)
