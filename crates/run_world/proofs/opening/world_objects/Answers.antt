-- Proof that the loop of `world_objects` keeps its invariant, and that it meets what `new` and `push_reserved` require.
use Rattle.std.proofs.Common.{rules, arith, ◌≡◌, ◌∙◌, List, [], ◌∷◌, ◌++◌, ap, subst}
use Rattle.run_objects.specs.Objects.{SeatedSourceState}
use Rattle.run_objects.proofs.Laying.{preserved_more}
use Rattle.run_world.specs.declared.object.WorldObject.{WorldObject}
use Rattle.run_world.specs.declared.object.WorldObject.TheVariants as object
use Rattle.run_world.specs.ObjectLists.{AreTimely}
use Rattle.run_world.proofs.Worlds.{at_more, those_more}
use Rattle.run_world.proofs.opening.world_objects.Goals as goal

pub new-requires-clause-timely : goal.new-requires-clause-timely
new-requires-clause-timely c = (subst (λ (l : List SeatedSourceState). AreTimely c.args.moment l) c.in-Some.ensures.steps.0 c.loop-source.invariant.1).0

pub loop-source-init : goal.loop-source-init
loop-source-init c = (record { rest = []; are = c.in-Ok.ensures.first; those = tt; at = tt }, search rules, tt, search rules)

pub push_reserved-requires : goal.push_reserved-requires
push_reserved-requires c = omega (arith, c.loop-source.invariant.3, c.in-Some.ensures.steps.1)

pub loop-source-preserved : goal.loop-source-preserved
loop-source-preserved c =
    let is = c.loop-source.invariant.0 in
    let one : WorldObject = object.Source c.new.result in (
      record {
        rest = is.rest ++ one ∷ [];
        are = c.push_reserved.ensures.items ∙ ap (λ (l : List WorldObject). l ++ one ∷ []) is.are;
        those = those_more c.loop-source.yielded c.in-Some.source is.rest one is.those c.new.ensures.0;
        at = at_more c.args.moment is.rest one is.at c.new.ensures.1;
      },
      (subst (λ (l : List SeatedSourceState). AreTimely c.args.moment l) c.in-Some.ensures.steps.0 c.loop-source.invariant.1).1,
      preserved_more c.loop-source.yielded c.in-Some.source c.loop-source.invariant.2 c.source-preserved.ensures.kept,
      omega (arith, c.loop-source.invariant.3, c.in-Some.ensures.steps.1, c.push_reserved.ensures.len, c.push_reserved.ensures.capacity),
    )
