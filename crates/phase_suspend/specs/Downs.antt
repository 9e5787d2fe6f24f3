-- The walks on the way down over the state of a board and the errors of the phase (drivers/base/power/main.c).
use Rattle.std.specs.Prelude.{ℕ, Bool, not, ◌&&◌, List, if◌then◌else◌, Option, Some, None}
use Rattle.sleep_base.specs.declared.errno.Errno.{Errno}
use Rattle.phase_table.specs.declared.phase.Phase.{Phase}
use Rattle.phase_table.specs.declared.phase.Phase.TheVariants as phase
use Rattle.phase_table.specs.Phases.{tests_wakeup}
use Rattle.sleep_model.specs.declared.entry.Kind.{Kind}
use Rattle.sleep_model.specs.declared.entry.Kind.TheVariants as kind
use Rattle.sleep_model.specs.declared.entry.SkipCause.TheVariants as skip
use Rattle.sleep_model.specs.declared.progress.Due.{Due}
use Rattle.sleep_model.specs.declared.progress.Due.TheVariants.{Makes}
use Rattle.sleep_model.specs.Devices.{after_device, unless_failed}
use Rattle.sleep_model.specs.PhaseStates.{state_at, is_direct_complete}
use Rattle.sleep_model.specs.Walk.{is_so, or_else}
use Rattle.async_board.specs.Boards.{BoardState, next_down_on, waits_down_on, waits_for_subordinates_on, all_below_direct_complete_on}
use Rattle.phase_suspend.specs.declared.down.Down.{Down}
use Rattle.phase_suspend.specs.declared.down.DownEnv.{DownEnv}

-- the states of devices, the errors of the phase, the devices that ask for direct-complete, those that are runtime suspended, those that
-- wake, and whether a wakeup is pending
pub record DownState : Type 0 where
  pub board : BoardState
  pub async_error : Option Errno
  pub error : Option Errno
  pub asks_direct : List Bool
  pub runtime_suspended : List Bool
  pub may_wakeup : List Bool
  pub wakeup_pending : Bool

-- the state that the calls see
abbrev pub down_state : Down → DownEnv → DownState
down_state down env = record {
  board = env.board.now;
  async_error = down.async_error;
  error = down.error;
  asks_direct = env.asks_direct.now;
  runtime_suspended = env.runtime_suspended.now;
  may_wakeup = env.may_wakeup.now;
  wakeup_pending = env.wakeup_pending;
}

-- d is direct-complete by suspend (__device_suspend, direct_complete)
abbrev pub is_direct_now_on : DownState → ℕ → Bool
is_direct_now_on s d = is_so s.asks_direct d && is_so s.runtime_suspended d && not (is_so s.may_wakeup d) && all_below_direct_complete_on s.board d

-- phase p takes no action on d (__device_suspend, __device_suspend_late, direct_complete)
abbrev pub is_direct_on : DownState → Phase → ℕ → Bool
is_direct_on s phase.Suspend d = is_direct_now_on s d
is_direct_on s p d = is_direct_complete (state_at s.board.suspend d)

-- a device at its turn (__device_suspend)
abbrev pub begin_or_skip_on : DownState → Phase → ℕ → Kind
begin_or_skip_on s p d =
    if tests_wakeup p && s.wakeup_pending then kind.Skip p d skip.Pending
    else if is_direct_on s p d then kind.Skip p d skip.Direct else kind.Begin p d

-- the walk down at that device (__device_suspend, dpm_async_fn)
abbrev pub walk_device_on : DownState → Phase → ℕ → Due
walk_device_on s p d =
    if is_so s.board.asynchronous d then Makes (kind.Schedule p d)
    else after_device (waits_for_subordinates_on s.board p d) (Makes (begin_or_skip_on s p d))

-- the end of a phase on the way down (dpm_suspend, async_synchronize_full)
abbrev pub walk_end_on : DownState → Phase → Due
walk_end_on s p = after_device (waits_down_on s.board p) (Makes (kind.Done p (or_else s.error s.async_error)))

-- the walk down between callbacks (dpm_suspend)
abbrev pub walk_down_on : DownState → Phase → Option Errno → Option ℕ → Due
walk_down_on s p None (Some d) = walk_device_on s p d
walk_down_on s p error next = walk_end_on s p

-- the walk down while it is inside no callback (dpm_suspend, dpm_suspend_late, dpm_noirq_suspend_devices)
abbrev pub walk_down_due_on : DownState → Phase → Due
walk_down_due_on s p = walk_down_on s p s.async_error (next_down_on s.board p)

-- a device that is scheduled on the way down, at its turn (async_suspend)
abbrev pub scheduled_down_on : DownState → Phase → ℕ → Due
scheduled_down_on s p d = after_device (waits_for_subordinates_on s.board p d) (Makes (unless_failed s.async_error p d (begin_or_skip_on s p d)))
