-- None of the indices so far passes.
use Rattle.async_board.specs.Picks.{is_picked, IsPassed}
use Rattle.async_board.proofs.pick.first_from.Given as goal

abbrev pub invariant-loop-at : goal.invariant-loop-at
invariant-loop-at l = IsPassed (is_picked l.pick l.look.asynchronous.now l.look.states.now) l.look.order.now l.at
