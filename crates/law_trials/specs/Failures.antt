-- Whole logs of attempts in which a callback, a notifier or the platform fails.
use Rattle.std.specs.Prelude.{false, [], ◌∷◌, codes, negsuc, Some, None}
use Rattle.sleep_model.specs.declared.machine.Machine.{Machine}
use Rattle.sleep_model.specs.declared.machine.Op.TheVariants as op
use Rattle.sleep_model.specs.declared.machine.TaskKind.TheVariants as task
use Rattle.sleep_model.specs.declared.machine.What.TheVariants as what
use Rattle.phase_table.specs.declared.phase.Phase.TheVariants as phase
use Rattle.law_trials.specs.Terms.{device, script, once, answer, empty_machine}

-- an asynchronous child fails to suspend: its parent is not taken: its machine
abbrev pub asynchronous_callback_fails_machine : Machine
asynchronous_callback_fails_machine = record empty_machine {
  devices = device (codes "p") None 0 ∷ device (codes "c") (Some 0) 1 ∷ [];
  actors = script (codes "w") task.User 1 (once (op.State (codes "mem") false) ∷ []) ∷ [];
  answers = answer (what.Device 1 phase.Suspend) None (negsuc 4) [] ∷ [];
}
