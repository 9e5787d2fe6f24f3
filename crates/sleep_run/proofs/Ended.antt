-- A run of what equals a machine.
use Rattle.std.proofs.Common.{◌≡◌, subst}
use Rattle.sleep_model.specs.declared.log.Log.{Log}
use Rattle.sleep_model.specs.declared.machine.Machine.{Machine}
use Rattle.machine_rounds.specs.Runs.{IsRun}

-- it is one of that machine
pub run_of : (k m : Machine) (log : Log) → k ≡ m → IsRun k log → IsRun m log
run_of k m log is run = subst (λ (x : Machine). IsRun x log) is run
