-- At each point of a log the way down over the board is that of the definitions.
use Rattle.std.proofs.Common.{◌≡◌, ℕ, true, List, Option, Some, None, refl}
use Rattle.std.proofs.lemmas.Bool.{false≢true}
use Rattle.sleep_base.specs.declared.errno.Errno.{Errno}
use Rattle.phase_table.specs.declared.phase.Phase.{Phase}
use Rattle.phase_table.specs.declared.phase.Phase.TheVariants as phase
use Rattle.phase_table.specs.Phases.{is_down}
use Rattle.sleep_model.specs.declared.entry.Entry.{Entry}
use Rattle.sleep_model.specs.declared.machine.Machine.{Machine}
use Rattle.sleep_model.specs.declared.word.EventNow.{EventNow}
use Rattle.sleep_model.specs.Devices.{phase_failed, next_down, walk_down, down_due, scheduled_due}
use Rattle.phase_suspend.specs.Downs.{walk_down_on, walk_down_due_on, scheduled_down_on}
use Rattle.phase_suspend.specs.AtPoints.{down_at, SuspendFollows}

module _ (m : Machine) (past : List Entry) (now : EventNow) where
  walk_same : (p : Phase) → is_down p ≡ true → (error : Option Errno) (next : Option ℕ) → walk_down_on (down_at m past now) p error next ≡ walk_down m past now p error next
  walk_same phase.Suspend e None (Some d) = refl
  walk_same phase.Suspend e None None = refl
  walk_same phase.Suspend e (Some r) next = refl
  walk_same phase.Late e None (Some d) = refl
  walk_same phase.Late e None None = refl
  walk_same phase.Late e (Some r) next = refl
  walk_same phase.Noirq e None (Some d) = refl
  walk_same phase.Noirq e None None = refl
  walk_same phase.Noirq e (Some r) next = refl
  walk_same p e error next = absurd (false≢true e)

  walk_is : (p : Phase) → is_down p ≡ true → walk_down_due_on (down_at m past now) p ≡ down_due m past now p None
  walk_is phase.Suspend e = walk_same phase.Suspend e (phase_failed past) (next_down m past phase.Suspend)
  walk_is phase.Late e = walk_same phase.Late e (phase_failed past) (next_down m past phase.Late)
  walk_is phase.Noirq e = walk_same phase.Noirq e (phase_failed past) (next_down m past phase.Noirq)
  walk_is p e = absurd (false≢true e)

  scheduled_is : (p : Phase) (d : ℕ) → is_down p ≡ true → scheduled_down_on (down_at m past now) p d ≡ scheduled_due m past now p d
  scheduled_is phase.Suspend d e = refl
  scheduled_is phase.Late d e = refl
  scheduled_is phase.Noirq d e = refl
  scheduled_is p d e = absurd (false≢true e)

  pub follows : SuspendFollows m past now
  follows = record { walk = walk_is; scheduled = scheduled_is; answer = λ d to_suspended. refl }
