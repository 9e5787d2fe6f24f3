-- The table of an attempt: its maker's entries are those of the row that is under way (kernel/power/suspend.c).
use Rattle.std.specs.Prelude.{◌≡◌, Bool, true, false, List, Option, Some, None, is_some}
use Rattle.sleep_model.specs.declared.entry.Actor.{Actor}
use Rattle.sleep_model.specs.declared.entry.Entry.{Entry}
use Rattle.sleep_model.specs.declared.entry.Kind.{Kind}
use Rattle.sleep_model.specs.declared.entry.Kind.TheVariants as kind
use Rattle.sleep_model.specs.declared.machine.Machine.{Machine}
use Rattle.sleep_model.specs.declared.machine.What.TheVariants as what
use Rattle.sleep_model.specs.declared.progress.Stage.{Stage}
use Rattle.sleep_model.specs.declared.progress.Stage.TheVariants as stage
use Rattle.sleep_model.specs.declared.word.EventNow.{EventNow}
use Rattle.phase_table.specs.declared.phase.Phase.{Phase}
use Rattle.phase_table.specs.declared.phase.Phase.TheVariants as phase
use Rattle.sleep_model.specs.Attempt.{answered, busy_error, freeze_since, sleep_of}
use Rattle.sleep_model.specs.Guard.{pending}
use Rattle.sleep_model.specs.Notifiers.{next_notified, next_post_notified, next_cpu_off, next_cpu_on, next_syscore_suspended, next_syscore_resumed}
use Rattle.rule_definitions.specs.Questions.{is_maker, row_now}
use Rattle.sleep_model.specs.Devices.{callback}
use Rattle.sleep_model.specs.Numbers.{numbers}
use Rattle.sleep_model.specs.EntryClasses.{EntryClass, Notes, Moves, journal}

-- an entry of a phase on the devices' way down (dpm_suspend)
abbrev pub IsOfDown : Phase → Kind → Type 0
IsOfDown p (kind.Schedule q d) = q ≡ p
IsOfDown p (kind.Begin q d) = q ≡ p
IsOfDown p (kind.End q d r) = q ≡ p
IsOfDown p (kind.Skip q d cause) = q ≡ p
IsOfDown p (kind.Done q r) = q ≡ p
IsOfDown p _ = ⊥

-- an entry of a phase on the devices' way up (dpm_resume)
abbrev pub IsOfUp : Phase → Kind → Type 0
IsOfUp p (kind.Schedule q d) = q ≡ p
IsOfUp p (kind.Begin q d) = q ≡ p
IsOfUp p (kind.End q d r) = q ≡ p
IsOfUp p (kind.Done q r) = q ≡ p
IsOfUp p _ = ⊥

-- an entry of that row: the thing that is next, what the machine answers for it, and what a test finds (enter_state,
-- suspend_devices_and_enter, suspend_enter)
abbrev pub IsOfRow : Machine → List Entry → EventNow → Stage → Kind → Type 0
IsOfRow m past now stage.Notifies (kind.NotifyPrepare x r) = (next_notified m past ≡ Some x) × (r ≡ answered m past (what.Notifier x))
IsOfRow m past now (stage.Freezes g) (kind.Freeze h) = (h ≡ g) × (freeze_since past ≡ None)
IsOfRow m past now (stage.Freezes g) (kind.Froze h end) = (h ≡ g) × (is_some (freeze_since past) ≡ true)
IsOfRow m past now (stage.PlatformDo step) (kind.PlatformDo asked r) = (asked ≡ step) × (r ≡ answered m past (what.Platform step))
IsOfRow m past now stage.Prepares (kind.Prepare d r) = Unit {0}
IsOfRow m past now stage.Prepares (kind.Done p r) = p ≡ phase.Prepare
IsOfRow m past now (stage.Downs p) k = IsOfDown p k
IsOfRow m past now stage.StopsCpus (kind.CpuOff x) = (next_cpu_off m past ≡ Some x) × (pending past now ≡ false)
IsOfRow m past now stage.StopsCpus (kind.CpuBusy x) = (next_cpu_off m past ≡ Some x) × (pending past now ≡ true)
IsOfRow m past now stage.StopsIrqs (kind.Irqs on) = on ≡ false
IsOfRow m past now stage.ChecksWakeup (kind.SyscoreCheck r) = r ≡ busy_error (pending past now)
IsOfRow m past now stage.StopsSyscore (kind.SyscoreSuspend x r) = (next_syscore_suspended m past ≡ Some x) × (r ≡ answered m past (what.Syscore x))
IsOfRow m past now stage.Enters (kind.Enter busy) = (sleep_of past ≡ None) × (busy ≡ pending past now)
IsOfRow m past now stage.Enters (kind.Wake by_event) = is_some (sleep_of past) ≡ true
IsOfRow m past now stage.StartsSyscore (kind.SyscoreResume x) = next_syscore_resumed m past ≡ Some x
IsOfRow m past now stage.StartsIrqs (kind.Irqs on) = on ≡ true
IsOfRow m past now stage.StartsCpus (kind.CpuOn x) = next_cpu_on m past ≡ Some x
IsOfRow m past now (stage.PlatformUndo step) (kind.PlatformUndo told) = told ≡ step
IsOfRow m past now (stage.Ups p) k = IsOfUp p k
IsOfRow m past now stage.Completes (kind.Complete d) = Unit {0}
IsOfRow m past now stage.Completes (kind.Done p r) = p ≡ phase.Complete
IsOfRow m past now stage.ClearsEventsCheck kind.Clear = Unit {0}
IsOfRow m past now (stage.Thaws those) (kind.Thaw told) = told ≡ those
IsOfRow m past now stage.NotifiesPost (kind.NotifyPost x) = next_post_notified m past ≡ Some x
IsOfRow m past now stage.Ends (kind.Over n r) = Unit {0}
IsOfRow m past now _ _ = ⊥

-- an entry of the row, if one is under way (enter_state)
abbrev pub IsOfRowIf : Machine → List Entry → EventNow → Option Stage → Kind → Type 0
IsOfRowIf m past now None k = ⊥
IsOfRowIf m past now (Some here) k = IsOfRow m past now here k

-- what its maker makes inside an attempt is of the row; others' entries have no row (enter_state)
abbrev pub PathOf : Machine → List Entry → EventNow → Bool → Kind → Type 0
PathOf m past now true k = IsOfRowIf m past now (row_now m past) k
PathOf m past now false k = Unit {0}

-- inside an attempt its maker follows the table (enter_state, suspend_devices_and_enter, suspend_enter)
abbrev pub KeepsPath : Machine → List Entry → EventNow → Actor → Kind → Type 0
KeepsPath m past now who k = PathOf m past now (is_maker past who) k

-- ---- among all entries

-- inside an attempt its maker calls on sources only if it is inside a callback (dpm_run_callback, pm_wakeup_event)
abbrev pub ReportsOf : List Entry → Bool → Type 0
ReportsOf past true = is_some (callback past) ≡ true
ReportsOf past false = Unit {0}

-- inside an attempt its maker follows the table, and calls on sources only from callbacks (enter_state, dpm_run_callback)
abbrev pub PathEntry : Machine → List Entry → Entry → EntryClass → Type 0
PathEntry m past e (Notes s call) = ReportsOf (journal past) (is_maker (journal past) e.actor)
PathEntry m past e (Moves s step) = Unit {0}
PathEntry m past e _ = KeepsPath m (journal past) (numbers past) e.actor e.kind
