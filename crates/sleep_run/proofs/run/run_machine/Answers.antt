-- Proof that `run_machine` meets its contract.
use Rattle.std.proofs.Common.{◌∙◌, rules}
use Rattle.sleep_run.proofs.Ended.{run_of}
use Rattle.sleep_run.proofs.run.run_machine.Goals as goal

pub returns-clause-ok : goal.returns-clause-ok
returns-clause-ok g c = run_of _ _ _ (c.in_ok-run.ensures ∙ c.in-Ok.ensures) (search rules)
