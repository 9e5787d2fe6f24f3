-- Proof that the loop of `parents_in` keeps its invariant.
use Rattle.std.proofs.Common.{rules, sym, subst}
use Rattle.sleep_model.specs.Order.{EachAfterParent}
use Rattle.sleep_model.proofs.Children.{after_parent_push}
use Rattle.part_cases.proofs.links.parents_in.Goals as goal

pub loop-word-preserved : goal.loop-word-preserved
loop-word-preserved c = subst (EachAfterParent 0) (sym c.in_ok-push.ensures.items) (after_parent_push 0 c.loop-word.parents.items _ c.loop-word.invariant (search rules))
