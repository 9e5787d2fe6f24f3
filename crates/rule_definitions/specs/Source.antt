-- A wakeup source's own entries (drivers/base/power/wakeup.c).
use Rattle.std.specs.Prelude.{List, ◌∷◌}
use Rattle.sleep_model.specs.declared.entry.Entry.{Entry}
use Rattle.sleep_model.specs.declared.machine.Machine.{Machine}
use Rattle.sleep_model.specs.Legal.{HistoriesFit}
use Rattle.sleep_model.specs.Numbers.{time_of}
use Rattle.sleep_model.specs.EntryClasses.{EntryClass, Notes, Moves}
use Rattle.sleep_model.specs.Sources.{history, owed, IsNext, SourceStep}

-- a note begins a call if the source's last one owes nothing, an expiry only if it is due; a step is the one that is owed next
-- (wakeup_source_report_event, pm_wakeup_timer_fn)
abbrev pub CallEntry : List Entry → Entry → EntryClass → Type 0
CallEntry past e (Moves s step) = IsNext step (owed (history s past))
CallEntry past e (Notes s call) = SourceStep (history s past) (time_of past) e.actor (Notes s call)
CallEntry past e _ = Unit {0}

-- and the source is there, and its history has room for it (own)
abbrev pub SourceEntry : Machine → List Entry → Entry → EntryClass → Type 0
SourceEntry m past e part = CallEntry past e part × HistoriesFit m (e ∷ past)
