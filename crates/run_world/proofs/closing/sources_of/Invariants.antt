-- The invariant of the loop of `sources_of`.
use Rattle.std.proofs.Common.{ℕ, ◌≤◌, ◌+◌, vec_len, vec_capacity}
use Rattle.run_objects.specs.Objects.{SourcesInvariant}
use Rattle.run_world.specs.ObjectLists.{AreAtMoment, AreThose}
use Rattle.run_world.proofs.closing.sources_of.Given as goal

abbrev pub invariant-loop-object : goal.invariant-loop-object
invariant-loop-object l =
    AreThose l.sources.items l.yielded × ((moment : ℕ) × AreAtMoment moment l.object-iterator.rest.items) × SourcesInvariant l.sources.items
    × (vec_len l.sources + l.object-iterator.rest.len ≤ vec_capacity l.sources)
