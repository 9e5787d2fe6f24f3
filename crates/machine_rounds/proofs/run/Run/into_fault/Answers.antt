-- Proof that `Run::into_fault` meets its contract.
use Rattle.machine_rounds.proofs.Idling.{fault_is}
use Rattle.machine_rounds.proofs.run.Run.into_fault.Goals as goal

pub returns : goal.returns
returns g c = fault_is c.args.self c.look-word.new.self c.look-word.result c.args.fault c.look-word.ensures.same c.look-word.ensures.seen c.in-Ok.ensures.closed_over c.requires
