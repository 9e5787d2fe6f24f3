-- Only what is owed is undone.
use Rattle.std.specs.Prelude.{List}
use Rattle.sleep_model.specs.declared.entry.Entry.{Entry}
use Rattle.sleep_model.specs.declared.entry.Kind.{Kind}
use Rattle.sleep_model.specs.declared.entry.Kind.TheVariants as kind
use Rattle.sleep_model.specs.declared.machine.Machine.{Machine}
use Rattle.sleep_model.specs.Laws.{Owed}

-- an undo is only for what an entry before it did and none has undone since; waking is no undo (dpm_resume, dpm_complete, suspend_finish)
abbrev pub KeepsOwed : Machine → List Entry → Kind → Type 0
KeepsOwed m past (kind.Wake by_event) = Unit {0}
KeepsOwed m past k = Owed m past k
