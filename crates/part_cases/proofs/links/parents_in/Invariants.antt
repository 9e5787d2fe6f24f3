-- The invariant of the loop of `parents_in`.
use Rattle.sleep_model.specs.Order.{EachAfterParent}
use Rattle.part_cases.proofs.links.parents_in.Given as goal

abbrev pub invariant-loop-word : goal.invariant-loop-word
invariant-loop-word l = EachAfterParent 0 l.parents.items
