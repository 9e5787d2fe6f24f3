-- Proof that `make` meets its contract.
use Rattle.wake_locks.proofs.Calls.{gains_call}
use Rattle.wake_locks.proofs.lock.make.Goals as goal

pub returns-clause-made : goal.returns-clause-made
returns-clause-made g c = gains_call c.args.by c.args.call c.args.events.now _ _ _ _ _ c.in_ok-call.ensures.calls c.in_ok-call.ensures.shown c.in_ok-call.ensures.settled
