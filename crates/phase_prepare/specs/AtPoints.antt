-- Prepare and complete at a point of a machine's log.
use Rattle.std.specs.Prelude.{◌≡◌, ℕ, ℤ, List, IfSome}
use Rattle.phase_table.specs.declared.phase.Phase.TheVariants as phase
use Rattle.sleep_model.specs.declared.entry.Entry.{Entry}
use Rattle.sleep_model.specs.declared.machine.Machine.{Machine}
use Rattle.sleep_model.specs.declared.machine.What.TheVariants as what
use Rattle.sleep_model.specs.Answers.{answer, answer_number}
use Rattle.sleep_model.specs.Devices.{phase_failed, prepare_due, next_prepared, complete_due, next_completed}
use Rattle.sleep_model.specs.Path.{attempts}
use Rattle.async_board.specs.AtPoints.{board_at}
use Rattle.phase_prepare.specs.Prepares.{prepare_due_on, complete_due_on}

-- what the machine answers for a device's prepare in the open attempt (device_prepare)
abbrev pub prepare_number : Machine → List Entry → ℕ → ℤ
prepare_number m past d = answer_number (answer m (what.Device d phase.Prepare) (attempts past))

-- prepare does what is due if r is what the next device's callback answers, and so does complete
pub record PrepareFollows (m : Machine) (past : List Entry) : Type 0 where
  pub prepare : (r : ℤ) → IfSome (next_prepared m past) (λ d. r ≡ prepare_number m past d)
      → prepare_due_on (board_at m past) r (phase_failed past)
      ≡ prepare_due m past (phase_failed past) (next_prepared m past)
  pub complete : complete_due_on (board_at m past) ≡ complete_due (next_completed m past)
