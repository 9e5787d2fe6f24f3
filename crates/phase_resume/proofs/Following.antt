-- At each point of a log the way up over the board is that of the definitions.
use Rattle.std.proofs.Common.{◌≡◌, ℕ, true, List, Option, Some, None, refl}
use Rattle.std.proofs.lemmas.Bool.{false≢true}
use Rattle.phase_table.specs.declared.phase.Phase.{Phase}
use Rattle.phase_table.specs.declared.phase.Phase.TheVariants as phase
use Rattle.phase_table.specs.Phases.{is_up}
use Rattle.sleep_model.specs.declared.entry.Entry.{Entry}
use Rattle.sleep_model.specs.declared.machine.Machine.{Machine}
use Rattle.sleep_model.specs.declared.word.EventNow.{EventNow}
use Rattle.sleep_model.specs.Devices.{next_to_schedule, next_up, walk_up, up_due, scheduled_due}
use Rattle.async_board.specs.AtPoints.{board_at}
use Rattle.phase_resume.specs.Ups.{walk_up_on, walk_up_due_on, scheduled_up_on}
use Rattle.phase_resume.specs.AtPoints.{ResumeFollows}

module _ (m : Machine) (past : List Entry) (now : EventNow) where
  walk_same : (p : Phase) → is_up p ≡ true → (scheduled next : Option ℕ) → walk_up_on (board_at m past) p scheduled next ≡ walk_up m past p scheduled next
  walk_same phase.ResumeNoirq e (Some d) next = refl
  walk_same phase.ResumeNoirq e None (Some d) = refl
  walk_same phase.ResumeNoirq e None None = refl
  walk_same phase.Early e (Some d) next = refl
  walk_same phase.Early e None (Some d) = refl
  walk_same phase.Early e None None = refl
  walk_same phase.Resume e (Some d) next = refl
  walk_same phase.Resume e None (Some d) = refl
  walk_same phase.Resume e None None = refl
  walk_same p e scheduled next = absurd (false≢true e)

  walk_is : (p : Phase) → is_up p ≡ true → walk_up_due_on (board_at m past) p ≡ up_due m past p None
  walk_is phase.ResumeNoirq e = walk_same phase.ResumeNoirq e (next_to_schedule m past phase.Noirq) (next_up m past phase.Noirq)
  walk_is phase.Early e = walk_same phase.Early e (next_to_schedule m past phase.Late) (next_up m past phase.Late)
  walk_is phase.Resume e = walk_same phase.Resume e (next_to_schedule m past phase.Suspend) (next_up m past phase.Suspend)
  walk_is p e = absurd (false≢true e)

  scheduled_is : (p : Phase) (d : ℕ) → is_up p ≡ true → scheduled_up_on (board_at m past) p d ≡ scheduled_due m past now p d
  scheduled_is phase.ResumeNoirq d e = refl
  scheduled_is phase.Early d e = refl
  scheduled_is phase.Resume d e = refl
  scheduled_is p d e = absurd (false≢true e)

  pub follows : ResumeFollows m past now
  follows = record { walk = walk_is; scheduled = scheduled_is }
