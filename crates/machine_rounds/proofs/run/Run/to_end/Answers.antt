-- Proof that `Run::to_end` meets its contract.
use Rattle.std.proofs.Common.{◌∙◌, subst}
use Rattle.sleep_model.specs.declared.machine.Machine.{Machine}
use Rattle.machine_rounds.specs.Runs.{IsRun}
use Rattle.machine_rounds.proofs.run.Run.to_end.Goals as goal

pub returns-in-Ok-Some-clause-ok : goal.returns-in-Ok-Some-clause-ok
returns-in-Ok-Some-clause-ok g c =
    subst (λ (m : Machine). IsRun m c.in_ok-into_log-in-Ok-Some.field-0) (c.in-Ok.ensures.machine ∙ c.loop-pass.invariant.machine) c.in_ok-into_log-in-Ok-Some.ensures
