-- Proof that `file_of` meets its contract.
use Rattle.std.proofs.Common.{◌∙◌, ap}
use Rattle.std.proofs.lemmas.Result.{IfOk-weaker}
use Rattle.machine_file.specs.Spelling.{spelling}
use Rattle.run_commands.proofs.generated.file_of.Goals as goal

pub returns : goal.returns
returns c = IfOk-weaker c.write_machine.result _ _ (λ file e. e ∙ ap spelling c.in_ok-machine.ensures.machine) c.write_machine.ensures
