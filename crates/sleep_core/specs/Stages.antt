-- Stages whose phase fits their direction, and those that are walks over devices.
use Rattle.std.specs.Prelude.{◌≡◌, Bool, true, false, ◌&&◌, List, Option, Some, is_some}
use Rattle.phase_table.specs.Phases.{is_down, is_up}
use Rattle.sleep_model.specs.declared.entry.Entry.{Entry}
use Rattle.sleep_model.specs.declared.progress.Stage.{Stage}
use Rattle.sleep_model.specs.declared.progress.Stage.TheVariants as stage
use Rattle.sleep_model.specs.Devices.{callback}
use Rattle.sleep_model.specs.Table.{stage_of}

-- a walk down is one of suspend, late and noirq, a walk up one of their mirrors (dpm_suspend, dpm_resume)
abbrev pub FitsPhase : Stage → Type 0
FitsPhase (stage.Downs p) = is_down p ≡ true
FitsPhase (stage.Ups p) = is_up p ≡ true
FitsPhase _ = Unit {0}

-- a stage is a walk over devices that runs their callbacks (dpm_suspend, dpm_resume)
abbrev pub is_walk : Option Stage → Bool
is_walk (Some (stage.Downs p)) = true
is_walk (Some (stage.Ups p)) = true
is_walk _ = false

-- the maker of the open attempt runs a callback in such a walk (dpm_run_callback)
abbrev pub runs_callback : List Entry → Bool
runs_callback past = is_some (callback past) && is_walk (stage_of past)
