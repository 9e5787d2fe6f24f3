-- Nothing is owed once an attempt is over.
use Rattle.std.specs.Prelude.{List}
use Rattle.sleep_model.specs.declared.entry.Entry.{Entry}
use Rattle.sleep_model.specs.declared.entry.Kind.{Kind}
use Rattle.sleep_model.specs.declared.machine.Machine.{Machine}
use Rattle.sleep_model.specs.Laws.{Restored}

-- an attempt ends only if nothing is owed (suspend_devices_and_enter, suspend_finish)
abbrev pub KeepsRestored : Machine → List Entry → Kind → Type 0
KeepsRestored m past k = Restored m past k
