-- Proof that the loop of `sources_of` keeps its invariant, and that it meets what `source_of` and `push_reserved` require.
use Rattle.std.proofs.Common.{List, subst, arith}
use Rattle.run_objects.proofs.Laying.{preserved_more}
use Rattle.run_world.specs.declared.object.WorldObject.{WorldObject}
use Rattle.run_world.specs.ObjectLists.{AreAtMoment}
use Rattle.run_world.proofs.Worlds.{those_more}
use Rattle.run_world.proofs.closing.sources_of.Goals as goal

pub source_of-requires : goal.source_of-requires
source_of-requires c =
    let is = c.loop-object.invariant.1 in
    (is.0, (subst (λ (l : List WorldObject). AreAtMoment is.0 l) c.in-Some.ensures.steps.0 is.1).0)

pub push_reserved-requires : goal.push_reserved-requires
push_reserved-requires c = omega (arith, c.loop-object.invariant.3, c.in-Some.ensures.steps.1)

pub loop-object-preserved : goal.loop-object-preserved
loop-object-preserved c =
    let is = c.loop-object.invariant in (
      rw (c.push_reserved.ensures.items) (those_more c.loop-object.sources.items c.source_of.result c.loop-object.yielded c.in-Some.object is.0 c.source_of.ensures.that),
      (is.1.0, (subst (λ (l : List WorldObject). AreAtMoment is.1.0 l) c.in-Some.ensures.steps.0 is.1.1).1),
      rw (c.push_reserved.ensures.items) (preserved_more c.loop-object.sources.items c.source_of.result is.2 c.source_of.ensures.kept),
      omega (arith, is.3, c.in-Some.ensures.steps.1, c.push_reserved.ensures.len, c.push_reserved.ensures.capacity),
    )
