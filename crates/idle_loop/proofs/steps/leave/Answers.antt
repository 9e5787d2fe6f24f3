-- Proof by hand of `leave`: what it returns, by the lemmas of `Stepping`.
use Rattle.idle_loop.proofs.Stepping.{gains_left}
use Rattle.idle_loop.proofs.steps.leave.Goals as goal

pub returns-then-leave-clause-gains : goal.returns-then-leave-clause-gains
returns-then-leave-clause-gains g c = gains_left c.leave.result c.args.gate_log.now c.leave.new.self c.look_for-now.result.hard c.leave.ensures.journal c.leave.ensures.sizes

pub returns-else-leave-clause-gains : goal.returns-else-leave-clause-gains
returns-else-leave-clause-gains g c = gains_left c.leave.result c.args.gate_log.now c.leave.new.self c.look_for-now.result.hard c.leave.ensures.journal c.leave.ensures.sizes
