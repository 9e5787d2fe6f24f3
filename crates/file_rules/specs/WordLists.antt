-- What the words of a file may name.
use Rattle.std.specs.Prelude.{List, [], ◌∷◌}
use Rattle.sleep_model.specs.declared.machine.TaskKind.{TaskKind}
use Rattle.sleep_model.specs.declared.machine.TaskKind.TheVariants as kind

-- all kinds of task, and interrupt lines (PF_KTHREAD, PF_NOFREEZE)
abbrev pub task_kinds : List TaskKind
task_kinds = kind.User ∷ kind.Kthread ∷ kind.NoFreeze ∷ kind.Irq ∷ []
