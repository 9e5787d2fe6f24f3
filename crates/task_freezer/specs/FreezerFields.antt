-- What the fields of the freezer are.
use Rattle.std.specs.Prelude.{◌≡◌, ◌<◌, ◌^◌, length}
use Rattle.task_freezer.specs.declared.freezer.Freezer.TheInside.{Inside}
use Rattle.task_freezer.specs.Freezers.{FreezerState}
use Rattle.task_freezer.specs.Waits.{left_counts}

-- the freezer as contracts see it
abbrev pub freezer : Inside → FreezerState
freezer f = record { scripts = f.scripts.now; freezings = f.freezings.items; exited_flags = f.exited_flags.items }

-- each script has its own freezing, and those that freezes wait for are counted
pub record FreezerInvariant (f : Inside) : Type 0 where
  pub few : length f.scripts.now < 2 ^ 31
  pub freezings : length f.freezings.items ≡ length f.scripts.now
  pub exited_flags : length f.exited_flags.items ≡ length f.scripts.now
  pub left : f.left ≡ left_counts f.scripts.now f.freezings.items f.exited_flags.items
