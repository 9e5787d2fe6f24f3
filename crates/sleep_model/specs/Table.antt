-- The table of an attempt: the stage under way, what follows it, and what a failure leads to (kernel/power/suspend.c).
-- An attempt is one try to suspend, a call of enter_state; the open attempt is the one that is under way.
-- A machine is the computer that suspends. The journal lists its steps, each as one entry; the Kind of an entry says which step it is.
-- The table is for PM_SUSPEND_MEM, with suspend_ops. It leaves out s2idle, suspend_again, pm_test, consoles, GFP masks and the sync of
-- files.
-- Names in brackets at the end of a comment are the kernel's functions that do the same, and once a label (Recover_platform).
use Rattle.std.specs.Prelude.{Bool, true, false, if◌then◌else◌, List, [], ◌∷◌, Option, Some, None}
use Rattle.sleep_base.specs.declared.errno.Errno.{Errno}
use Rattle.sleep_model.specs.declared.entry.Entry.{Entry}
use Rattle.sleep_model.specs.declared.entry.FrozeEnd.{FrozeEnd}
use Rattle.sleep_model.specs.declared.entry.FrozeEnd.TheVariants.{AllFrozen}
use Rattle.sleep_model.specs.declared.entry.Group.{Group}
use Rattle.sleep_model.specs.declared.entry.Group.TheVariants as group
use Rattle.sleep_model.specs.declared.entry.Kind.{Kind}
use Rattle.sleep_model.specs.declared.entry.Kind.TheVariants as kind
use Rattle.sleep_model.specs.declared.entry.Thaw.{Thaw}
use Rattle.sleep_model.specs.declared.entry.Thaw.TheVariants as thaw
use Rattle.sleep_model.specs.declared.machine.PlatDo.{PlatDo}
use Rattle.sleep_model.specs.declared.machine.PlatDo.TheVariants as down
use Rattle.sleep_model.specs.declared.machine.PlatUndo.{PlatUndo}
use Rattle.sleep_model.specs.declared.machine.PlatUndo.TheVariants as undo
use Rattle.phase_table.specs.declared.phase.Phase.{Phase}
use Rattle.phase_table.specs.declared.phase.Phase.TheVariants as phase
use Rattle.sleep_model.specs.declared.progress.Stage.{Stage}
use Rattle.sleep_model.specs.declared.progress.Stage.TheVariants as stage
use Rattle.phase_table.specs.Phases.{is_down}

-- ---- rows

-- a row has two columns: the stage that follows, and the stage that a failure leads to
pub record Row : Type 0 where
  pub next : Stage
  pub failed : Stage

-- a stage that may fail
abbrev pub may_fail : Stage → Stage → Row
may_fail next failed = record { next = next; failed = failed }

-- a stage that does not fail, or whose failure does not change what follows: `next` is in both columns
abbrev pub always : Stage → Row
always next = record { next = next; failed = next }

-- the table. A stage has the name of what it does: Downs p takes the devices down by phase p, and Ups p takes them up by phase p. If the
-- phases late and noirq fail, they resume what they suspended. PlatformDo is begin, prepare or prepare_late of suspend_ops. These are
-- down.Begin, down.Prepare and down.PrepareLate in the rows, and no phases of devices. PlatformUndo is recover, wake, finish or end of
-- suspend_ops; all but recover come after a success, too. PrepareLate comes after noirq: platform_suspend_prepare_noirq calls it.
-- ChecksWakeup is the test with which syscore_suspend begins; Enters begins with the test after syscore_suspend. ClearsEventsCheck sets
-- events_check_enabled to false. The comments of the type Stage name the kernel's function of each stage
-- (enter_state, suspend_devices_and_enter, suspend_enter, dpm_suspend_late, dpm_suspend_noirq, platform_suspend_prepare_noirq)
abbrev pub row : Stage → Row
row stage.Notifies = may_fail (stage.Freezes group.User) stage.NotifiesPost
row (stage.Freezes group.User) = may_fail (stage.Freezes group.Kernel) (stage.Thaws thaw.All)
row (stage.Freezes group.Kernel) = may_fail (stage.PlatformDo down.Begin) (stage.Thaws thaw.Kernel)
row (stage.PlatformDo down.Begin) = may_fail stage.Prepares (stage.PlatformUndo undo.End)
row stage.Prepares = may_fail (stage.Downs phase.Suspend) (stage.PlatformUndo undo.Recover)
row (stage.Downs phase.Suspend) = may_fail (stage.PlatformDo down.Prepare) (stage.PlatformUndo undo.Recover)
row (stage.PlatformDo down.Prepare) = may_fail (stage.Downs phase.Late) (stage.PlatformUndo undo.Finish)
row (stage.Downs phase.Late) = may_fail (stage.Downs phase.Noirq) (stage.Ups phase.Early)
row (stage.Downs phase.Noirq) = may_fail (stage.PlatformDo down.PrepareLate) (stage.Ups phase.ResumeNoirq)
row (stage.PlatformDo down.PrepareLate) = may_fail stage.StopsCpus (stage.PlatformUndo undo.Wake)
row stage.StopsCpus = may_fail stage.StopsIrqs stage.StartsCpus
row stage.StopsIrqs = always stage.ChecksWakeup
row stage.ChecksWakeup = may_fail stage.StopsSyscore stage.StartsIrqs
row stage.StopsSyscore = may_fail stage.Enters stage.StartsSyscore
row stage.Enters = always stage.StartsSyscore
row stage.StartsSyscore = always stage.StartsIrqs
row stage.StartsIrqs = always stage.StartsCpus
row stage.StartsCpus = always (stage.PlatformUndo undo.Wake)
row (stage.PlatformUndo undo.Wake) = always (stage.Ups phase.ResumeNoirq)
row (stage.Ups phase.ResumeNoirq) = always (stage.Ups phase.Early)
row (stage.Ups phase.Early) = always (stage.PlatformUndo undo.Finish)
row (stage.PlatformUndo undo.Finish) = always (stage.Ups phase.Resume)
row (stage.PlatformUndo undo.Recover) = always (stage.Ups phase.Resume)
-- only Ups Resume comes here: Ups has three phases, and the other two have rows above (dpm_resume_end)
row (stage.Ups _) = always stage.Completes
row stage.Completes = always (stage.PlatformUndo undo.End)
row (stage.PlatformUndo undo.End) = always stage.ClearsEventsCheck
row stage.ClearsEventsCheck = always (stage.Thaws thaw.All)
row (stage.Thaws thaw.Kernel) = always (stage.Thaws thaw.All)
row (stage.Thaws thaw.All) = always stage.NotifiesPost
row stage.NotifiesPost = always stage.Ends
row stage.Ends = always stage.Ends
-- no attempt comes to this row. Prepare, Complete and the two syscore phases have stages of their own; ResumeNoirq, Early and Resume are
-- phases of Ups. No run reads the first column. It is that of Noirq, since the checker of logs (check_account) has one arm for both. A log
-- is the journal with the entries of the wakeup sources merged in. The checker has a function failed_phase of its own, which it calls for
-- Prepare. Its contract is failed_phase below, so the second column is the same as in the row of Prepares
row (stage.Downs _) = may_fail (stage.PlatformDo down.PrepareLate) (stage.PlatformUndo undo.Recover)

-- ---- the columns of the table, for each sort of stage

-- the stage after a stage, if nothing fails (enter_state, suspend_devices_and_enter, suspend_enter)
abbrev pub next_stage : Stage → Stage
next_stage s = (row s).next

-- the stage after a stage that failed (enter_state, suspend_devices_and_enter, suspend_enter)
abbrev pub after_failure : Stage → Stage
after_failure s = (row s).failed

-- after a phase on the devices' way down (suspend_devices_and_enter, suspend_enter)
abbrev pub stage_after_down : Phase → Stage
stage_after_down p = (row (stage.Downs p)).next

-- after a phase on the devices' way up (suspend_enter, dpm_resume_end)
abbrev pub stage_after_up : Phase → Stage
stage_after_up p = (row (stage.Ups p)).next

-- after a freeze that froze all its tasks (suspend_freeze_processes)
abbrev pub stage_after_freeze : Group → Stage
stage_after_freeze g = (row (stage.Freezes g)).next

-- after a step of the platform on the way down (suspend_devices_and_enter, suspend_enter)
abbrev pub stage_after_platform_down : PlatDo → Stage
stage_after_platform_down step = (row (stage.PlatformDo step)).next

-- after a step of the platform on the way up (suspend_devices_and_enter, suspend_enter)
abbrev pub stage_after_platform_up : PlatUndo → Stage
stage_after_platform_up step = (row (stage.PlatformUndo step)).next

-- after a thaw (suspend_freeze_processes, suspend_finish)
abbrev pub stage_after_thaw : Thaw → Stage
stage_after_thaw those = (row (stage.Thaws those)).next

-- after a failed step of the platform (suspend_devices_and_enter, suspend_enter)
abbrev pub failed_platform_down : PlatDo → Stage
failed_platform_down step = (row (stage.PlatformDo step)).failed

-- after a freeze that left tasks unfrozen (suspend_freeze_processes)
abbrev pub failed_freeze : Group → Stage
failed_freeze g = (row (stage.Freezes g)).failed

-- where a failed phase leads. Prepare and suspend: to recover of suspend_ops. Late and noirq: to the resume of what they suspended
-- (suspend_devices_and_enter, Recover_platform)
abbrev pub failed_phase : Phase → Stage
failed_phase p = (row (stage.Downs p)).failed

-- ---- the stage after an entry

-- the stage `good` if there is no error, else the stage `failed`
abbrev pub by_error : Option Errno → Stage → Stage → Stage
by_error None good failed = good
by_error (Some r) good failed = failed

-- the stage `good` if a freeze froze all its tasks, else the stage `failed`
abbrev pub by_froze : FrozeEnd → Stage → Stage → Stage
by_froze AllFrozen good failed = good
by_froze _ good failed = failed

-- the stage `here` if the condition holds, else the stage `there`
abbrev pub by_case : Bool → Stage → Stage → Stage
by_case true here there = here
by_case false here there = there

-- the stage after a phase that is done. The two syscore phases have no entry Done: their equations here only make the function total. On
-- the way down such a phase ends at the entry of an operation that fails, else at Enter, the entry after the last operation's. On the way
-- up no operation fails, and the phase ends at Irqs
-- (suspend_devices_and_enter, suspend_enter)
abbrev pub after_done : Phase → Option Errno → Stage
after_done phase.Prepare r = by_error r (next_stage stage.Prepares) (after_failure stage.Prepares)
after_done phase.Syscore r = next_stage stage.StopsSyscore
after_done phase.SyscoreResume r = next_stage stage.StartsSyscore
after_done phase.Complete r = next_stage stage.Completes
after_done p r = if is_down p then by_error r (stage_after_down p) (failed_phase p) else stage_after_up p

-- in the entries below n is the number of an attempt, x of a notifier or a syscore operation, k of a processor; r is an error, or none.
-- guarded is saved_count, if events_check_enabled was true as the attempt began: pm_wakeup_pending compares with it. busy and CpuBusy: a
-- wakeup is pending (EBUSY). by_event: a change of the event word (combined_event_count, pm_abort_suspend) ended the sleep, and not the
-- alarm, a length of sleep that the machine's description sets. In the kernel hardware ends the sleep. SyscoreCheck is the entry of the
-- stage ChecksWakeup, Clear of ClearsEventsCheck, Over of Ends

-- the stage of the open attempt after an entry of the journal. An entry of one device, and one that is not made for the attempt, such as a
-- read of wakeup_count, does not change it. Nor does that of one notifier, processor or syscore operation that succeeds. A stage of
-- notifiers, processors or syscore operations has no entry at its end. If all succeed, it is left at the first entry of the next stage. If
-- that entry is the only one of the next stage, it ends that stage, too. So Irqs off leads from StopsCpus to ChecksWakeup: no entry leads
-- to StopsIrqs
-- (enter_state, suspend_devices_and_enter, suspend_enter)
abbrev pub stage_after : Kind → Option Stage → Option Stage
stage_after (kind.Attempt n guarded) before = Some stage.Notifies
stage_after (kind.NotifyPrepare x r) before = Some (by_error r stage.Notifies stage.NotifiesPost)
stage_after (kind.Freeze g) before = Some (stage.Freezes g)
stage_after (kind.Froze g end) before = Some (by_froze end (stage_after_freeze g) (failed_freeze g))
stage_after (kind.PlatformDo step r) before = Some (by_error r (stage_after_platform_down step) (failed_platform_down step))
stage_after (kind.Done p r) before = Some (after_done p r)
stage_after (kind.CpuOff k) before = Some stage.StopsCpus
stage_after (kind.CpuBusy k) before = Some stage.StartsCpus
stage_after (kind.Irqs on) before = Some (by_case on stage.StartsCpus stage.ChecksWakeup)
stage_after (kind.SyscoreCheck r) before = Some (by_error r stage.StopsSyscore stage.StartsIrqs)
stage_after (kind.SyscoreSuspend x r) before = Some (by_error r stage.StopsSyscore stage.StartsSyscore)
stage_after (kind.Enter busy) before = Some (by_case busy stage.StartsSyscore stage.Enters)
stage_after (kind.Wake by_event) before = Some stage.StartsSyscore
stage_after (kind.SyscoreResume x) before = Some stage.StartsSyscore
stage_after (kind.CpuOn k) before = Some stage.StartsCpus
stage_after (kind.PlatformUndo step) before = Some (stage_after_platform_up step)
stage_after kind.Clear before = Some (stage.Thaws thaw.All)
stage_after (kind.Thaw those) before = Some (stage_after_thaw those)
stage_after (kind.NotifyPost x) before = Some stage.NotifiesPost
stage_after (kind.Over n r) before = None
stage_after _ before = before

-- the stage of the open attempt, if one is open; the list has the newest entry first (enter_state)
abbrev pub stage_of : List Entry → Option Stage
stage_of [] = None
stage_of (e ∷ past) = stage_after e.kind (stage_of past)
