-- The invariant of the loop of `world_objects`.
use Rattle.std.proofs.Common.{◌≤◌, ◌+◌, vec_len, vec_capacity}
use Rattle.run_objects.specs.Objects.{SourcesInvariant}
use Rattle.run_world.specs.ObjectLists.{AreObjectsOf, AreTimely}
use Rattle.run_world.proofs.opening.world_objects.Given as goal

abbrev pub invariant-loop-source : goal.invariant-loop-source
invariant-loop-source l =
    AreObjectsOf l.fn.moment l.fn.machine l.yielded l.objects.items × AreTimely l.fn.moment l.source-iterator.rest.items × SourcesInvariant l.yielded
    × (vec_len l.objects + l.source-iterator.rest.len ≤ vec_capacity l.objects)
