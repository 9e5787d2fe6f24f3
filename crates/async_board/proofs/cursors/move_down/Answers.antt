-- The other cursor stays.
use Rattle.async_board.proofs.Moved.{to_schedule_apart, up_apart}
use Rattle.async_board.proofs.cursors.move_down.Goals as goal

pub returns-then-moved-clause-up : goal.returns-then-moved-clause-up
returns-then-moved-clause-up c = up_apart c.args.look.now.asynchronous.now c.args.look.now.states.now c.args.look.now.order.now c.args.moved _ c.args.up.now c.requires.here c.if-moved.true c.requires.up

pub returns-else-moved-clause-to_schedule : goal.returns-else-moved-clause-to_schedule
returns-else-moved-clause-to_schedule c = to_schedule_apart c.args.look.now.asynchronous.now c.args.look.now.states.now c.args.look.now.order.now c.args.moved _ c.args.to_schedule.now c.requires.here c.if-moved.false c.requires.to_schedule
