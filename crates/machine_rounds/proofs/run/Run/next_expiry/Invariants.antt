-- The invariant of the loop of `Run::next_expiry`.
use Rattle.std.proofs.Common.{◌≡◌}
use Rattle.sleep_model.specs.Legal.{next_expiry}
use Rattle.running_laws.specs.Running.{histories}
use Rattle.machine_rounds.proofs.run.Run.next_expiry.Given as goal

abbrev pub invariant-loop-source : goal.invariant-loop-source
invariant-loop-source l = l.next ≡ next_expiry l.source (histories l.self.sources)
