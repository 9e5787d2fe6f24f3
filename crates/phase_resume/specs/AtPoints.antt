-- The way up at a point of a machine's log.
use Rattle.std.specs.Prelude.{◌≡◌, ℕ, true, List, None}
use Rattle.phase_table.specs.declared.phase.Phase.{Phase}
use Rattle.phase_table.specs.Phases.{is_up}
use Rattle.sleep_model.specs.declared.entry.Entry.{Entry}
use Rattle.sleep_model.specs.declared.machine.Machine.{Machine}
use Rattle.sleep_model.specs.declared.word.EventNow.{EventNow}
use Rattle.sleep_model.specs.Devices.{up_due, scheduled_due}
use Rattle.async_board.specs.AtPoints.{board_at}
use Rattle.phase_resume.specs.Ups.{walk_up_due_on, scheduled_up_on}

-- the walk and the devices do what is due of them
pub record ResumeFollows (m : Machine) (past : List Entry) (now : EventNow) : Type 0 where
  pub walk : (p : Phase) → is_up p ≡ true → walk_up_due_on (board_at m past) p ≡ up_due m past p None
  pub scheduled : (p : Phase) (d : ℕ) → is_up p ≡ true → scheduled_up_on (board_at m past) p d ≡ scheduled_due m past now p d
