-- The way down at a point of a machine's log.
use Rattle.std.specs.Prelude.{◌≡◌, ℕ, Bool, true, List, length, map, None}
use Rattle.phase_table.specs.declared.phase.Phase.{Phase}
use Rattle.phase_table.specs.Phases.{is_down}
use Rattle.sleep_model.specs.declared.entry.Entry.{Entry}
use Rattle.sleep_model.specs.declared.machine.Machine.{Machine}
use Rattle.sleep_model.specs.declared.word.EventNow.{EventNow}
use Rattle.sleep_model.specs.Devices.{phase_failed, own_error, asks_direct, down_due, scheduled_due}
use Rattle.sleep_model.specs.Guard.{pending}
use Rattle.sleep_model.specs.Runtime.{may_wake, statuses, disabled_by_direct, disabled_by_late, runtime_due}
use Rattle.async_board.specs.AtPoints.{board_at}
use Rattle.phase_suspend.specs.Downs.{DownState, walk_down_due_on, scheduled_down_on}
use Rattle.phase_suspend.specs.Spanned.{runtime_due_on}

-- what a phase on the way down looks at, after these entries, by an actor that sees this word
abbrev pub down_at : Machine → List Entry → EventNow → DownState
down_at m past now = record {
  board = board_at m past;
  async_error = phase_failed past;
  error = own_error past;
  asks_direct = asks_direct (length m.devices) past;
  runtime_suspended = statuses m.devices past;
  may_wakeup = map may_wake m.devices;
  wakeup_pending = pending past now;
}

-- the walk and the devices do what is due of them
pub record SuspendFollows (m : Machine) (past : List Entry) (now : EventNow) : Type 0 where
  pub walk : (p : Phase) → is_down p ≡ true → walk_down_due_on (down_at m past now) p ≡ down_due m past now p None
  pub scheduled : (p : Phase) (d : ℕ) → is_down p ≡ true → scheduled_down_on (down_at m past now) p d ≡ scheduled_due m past now p d
  pub answer : (d : ℕ) (to_suspended : Bool)
      → runtime_due_on (board_at m past) (disabled_by_direct past) (disabled_by_late past) d to_suspended
      ≡ runtime_due m d to_suspended past
