-- Prepare and complete over the state of a board (drivers/base/power/main.c).
use Rattle.std.specs.Prelude.{ℕ, ℤ, Option, Some, None}
use Rattle.sleep_base.specs.declared.errno.Errno.{Errno}
use Rattle.phase_table.specs.declared.phase.Phase.TheVariants as phase
use Rattle.sleep_model.specs.declared.entry.Kind.TheVariants as kind
use Rattle.sleep_model.specs.declared.progress.Due.{Due}
use Rattle.sleep_model.specs.declared.progress.Due.TheVariants.{Makes}
use Rattle.sleep_model.specs.Devices.{complete_due}
use Rattle.async_board.specs.Boards.{BoardState, next_prepared_on, next_completed_on}

-- prepare goes forward, and an error ends it; r is what the device's callback answers (dpm_prepare)
abbrev pub prepare_by : ℤ → Option Errno → Option ℕ → Due
prepare_by r None (Some d) = Makes (kind.Prepare d r)
prepare_by r error next = Makes (kind.Done phase.Prepare error)

-- what prepare does next (dpm_prepare)
abbrev pub prepare_due_on : BoardState → ℤ → Option Errno → Due
prepare_due_on board r error = prepare_by r error (next_prepared_on board)

-- what complete does next (dpm_complete)
abbrev pub complete_due_on : BoardState → Due
complete_due_on board = complete_due (next_completed_on board)
