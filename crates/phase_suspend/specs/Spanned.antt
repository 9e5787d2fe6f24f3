-- What the core answers to a request for a runtime status (drivers/base/power/runtime.c).
use Rattle.std.specs.Prelude.{ℕ, Bool, ◌&&◌, ◌||◌, Option}
use Rattle.sleep_base.specs.declared.errno.Errno.{Errno}
use Rattle.sleep_model.specs.Runtime.{runtime_answer}
use Rattle.sleep_model.specs.PhaseStates.{state_at, is_direct_complete, is_prepared, is_taken}
use Rattle.async_board.specs.Boards.{BoardState}

-- runtime PM of d is disabled (pm_runtime_disable)
abbrev pub is_off_on : BoardState → Bool → Bool → ℕ → Bool
is_off_on board disabled_by_direct disabled_by_late d =
    (disabled_by_direct && is_direct_complete (state_at board.suspend d))
    || (disabled_by_late && is_taken (state_at board.late d))

-- what a request for d is answered (__pm_runtime_set_status)
abbrev pub runtime_due_on : BoardState → Bool → Bool → ℕ → Bool → Option Errno
runtime_due_on board disabled_by_direct disabled_by_late d to_suspended =
    runtime_answer (is_off_on board disabled_by_direct disabled_by_late d) (is_prepared (state_at board.suspend d)) to_suspended
