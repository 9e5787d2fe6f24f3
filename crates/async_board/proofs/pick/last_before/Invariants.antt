-- None of the indices from here on passes.
use Rattle.async_board.specs.Picks.{is_picked, IsAhead}
use Rattle.async_board.proofs.pick.last_before.Given as goal

abbrev pub invariant-loop-at : goal.invariant-loop-at
invariant-loop-at l = IsAhead (is_picked l.pick l.look.asynchronous.now l.look.states.now) l.look.order.now l.at

abbrev pub decreases-loop-at : goal.decreases-loop-at
decreases-loop-at l = l.at
