-- Whom a freeze waits for.
use Rattle.std.specs.Prelude.{ℕ, List, [], ◌∷◌, length, Option, Some, None}
use Rattle.check_past.specs.declared.tasks.UnfrozenTasks.{UnfrozenTasks}

-- the first of these, if there is one
abbrev pub first_of : List ℕ → Option ℕ
first_of [] = None
first_of (x ∷ xs) = Some x

-- how many they are, and the first (try_to_freeze_tasks)
abbrev pub left_is : List ℕ → UnfrozenTasks
left_is xs = record { count = length xs; first = first_of xs }
