-- What the fields of the tasks are.
use Rattle.sleep_state.specs.declared.tasks.Tasks.TheInside.{Inside}
use Rattle.sleep_state.specs.TaskStates.{TaskState}

-- the tasks as contracts see them
abbrev pub tasks : Inside → TaskState
tasks t = record { positions = t.positions; marks = t.marks.items }
