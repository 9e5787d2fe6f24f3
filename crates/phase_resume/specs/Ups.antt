-- The walks on the way up over a board; p is the phase on the way up (drivers/base/power/main.c).
use Rattle.std.specs.Prelude.{ℕ, Option, Some, None}
use Rattle.phase_table.specs.declared.phase.Phase.{Phase}
use Rattle.phase_table.specs.Phases.{mirror}
use Rattle.sleep_model.specs.declared.entry.Kind.TheVariants as kind
use Rattle.sleep_model.specs.declared.progress.Due.{Due}
use Rattle.sleep_model.specs.declared.progress.Due.TheVariants.{Makes}
use Rattle.sleep_model.specs.Devices.{after_device}
use Rattle.async_board.specs.Boards.{BoardState, next_to_schedule_on, next_up_on, waits_up_on, waits_above_on}

-- a device that is scheduled or taken on the way up, at its turn (async_resume, dpm_wait_for_superior)
abbrev pub scheduled_up_on : BoardState → Phase → ℕ → Due
scheduled_up_on board p d = after_device (waits_above_on board (mirror p) d) (Makes (kind.Begin p d))

-- the end of a phase on the way up (dpm_resume, async_synchronize_full)
abbrev pub close_up_on : BoardState → Phase → Due
close_up_on board p = after_device (waits_up_on board (mirror p)) (Makes (kind.Done p None))

-- the walk up between callbacks: first it schedules, then each synchronous device waits for all above it (dpm_resume)
abbrev pub walk_up_on : BoardState → Phase → Option ℕ → Option ℕ → Due
walk_up_on board p (Some d) next = Makes (kind.Schedule p d)
walk_up_on board p None (Some d) = scheduled_up_on board p d
walk_up_on board p None None = close_up_on board p

-- the walk up while it is inside no callback (dpm_noirq_resume_devices, dpm_resume_early, dpm_resume)
abbrev pub walk_up_due_on : BoardState → Phase → Due
walk_up_due_on board p = walk_up_on board p (next_to_schedule_on board (mirror p)) (next_up_on board (mirror p))
