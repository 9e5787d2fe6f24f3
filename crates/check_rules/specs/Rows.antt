-- The rows of an attempt's table, down and up.
use Rattle.std.specs.Prelude.{Bool, true, false}
use Rattle.sleep_model.specs.declared.progress.Stage.{Stage}
use Rattle.sleep_model.specs.declared.progress.Stage.TheVariants as stage

-- a row on the way down, up to the sleep itself (enter_state, suspend_enter)
abbrev pub is_descent : Stage → Bool
is_descent stage.Notifies = true
is_descent (stage.Freezes g) = true
is_descent (stage.PlatformDo step) = true
is_descent stage.Prepares = true
is_descent (stage.Downs p) = true
is_descent stage.StopsCpus = true
is_descent stage.StopsIrqs = true
is_descent stage.ChecksWakeup = true
is_descent stage.StopsSyscore = true
is_descent stage.Enters = true
is_descent _ = false
