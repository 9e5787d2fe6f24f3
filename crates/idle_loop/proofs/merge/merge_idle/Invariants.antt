-- The invariant of the loop of `merge_idle`.
use Rattle.idle_loop.proofs.Placing.{IsPlaced}
use Rattle.idle_loop.proofs.merge.merge_idle.Given as goal

abbrev pub invariant-loop-entry : goal.invariant-loop-entry
invariant-loop-entry l = IsPlaced l.makers l.journal l.entry-index l.placed l.log.items
