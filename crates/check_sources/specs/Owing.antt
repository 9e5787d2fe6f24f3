-- The steps that a call owes, as flags.
use Rattle.std.specs.Prelude.{◌≡◌, Bool, true, false, not, ◌==◌, List, [], ◌∷◌, ◌++◌, is_some, if◌then◌else◌}
use Rattle.sleep_model.specs.declared.entry.Entry.{Entry}
use Rattle.sleep_model.specs.declared.machine.SourceCall.{SourceCall}
use Rattle.sleep_model.specs.declared.machine.SourceCall.TheVariants as call
use Rattle.sleep_model.specs.declared.word.WordKind.{WordKind}
use Rattle.sleep_model.specs.declared.word.WordKind.TheVariants as step
use Rattle.sleep_model.specs.EntryClasses.{EntryClass, Notes, Moves, class_of}
use Rattle.sleep_model.specs.Sources.{owed, since}
use Rattle.check_sources.specs.declared.owed.Owed.{Owed}

-- one step, if it is owed (own)
abbrev pub step_if : Bool → WordKind → List WordKind
step_if true s = s ∷ []
step_if false s = []

-- the steps in order (wakeup_source_report_event)
abbrev pub steps_of : Owed → List WordKind
steps_of o = step_if o.start step.Start ++ step_if o.hard step.Hard ++ step_if o.finish step.Finish

-- none (own)
abbrev pub owes_none : Owed
owes_none = record { start = false; hard = false; finish = false }

-- those of a call, by whether an event is in progress (__pm_stay_awake, __pm_relax, pm_wakeup_ws_event)
abbrev pub owed_by : SourceCall → Bool → Owed
owed_by call.Awake active = record { start = not active; hard = false; finish = false }
owed_by call.Relax active = record { start = false; hard = false; finish = active }
owed_by (call.Event ms hard) active = record { start = not active; hard = hard; finish = ms == 0 }
owed_by call.Expire active = record { start = false; hard = false; finish = active }

-- those after the first (own)
abbrev pub after_first : Owed → Owed
after_first o =
    if o.start then record o { start = false } else (if o.hard then record o { hard = false } else record o { finish = false })

-- those that are owed after an entry, by whether an event is in progress (own)
abbrev pub owes_after : EntryClass → Bool → Owed → Owed
owes_after (Notes s made) active before = owed_by made active
owes_after (Moves s moved) active before = after_first before
owes_after _ active before = before

-- those that the source's last call still owes (wakeup_source_report_event)
abbrev pub owes : List Entry → Owed
owes [] = owes_none
owes (e ∷ own) = owes_after (class_of e.kind) (is_some (since own)) (owes own)

-- the flags are the steps that are owed (own)
abbrev pub FlagsAreSteps : Type 0
FlagsAreSteps = (own : List Entry) → steps_of (owes own) ≡ owed own
