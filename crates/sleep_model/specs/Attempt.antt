-- An attempt, stage by stage: what its maker does next (kernel/power/suspend.c, enter_state, suspend_devices_and_enter, suspend_enter).
use Rattle.std.specs.Prelude.{ℕ, ◌+◌, Bool, true, false, nat_lt, nat_le, List, [], ◌∷◌, length, if◌then◌else◌, Option, Some, None, is_some}
use Rattle.sleep_base.specs.declared.errno.Errno.{Errno}
use Rattle.sleep_base.specs.declared.errno.Errno.TheVariants.{EBUSY}
use Rattle.sleep_model.specs.declared.word.EventNow.{EventNow}
use Rattle.sleep_model.specs.declared.entry.Entry.{Entry}
use Rattle.sleep_model.specs.declared.entry.FrozeEnd.{FrozeEnd}
use Rattle.sleep_model.specs.declared.entry.FrozeEnd.TheVariants as froze
use Rattle.sleep_model.specs.declared.entry.Group.{Group}
use Rattle.sleep_model.specs.declared.entry.Kind.{Kind}
use Rattle.sleep_model.specs.declared.entry.Kind.TheVariants as kind
use Rattle.sleep_model.specs.declared.log.Why.TheVariants as why
use Rattle.sleep_model.specs.declared.machine.Machine.{Machine}
use Rattle.sleep_model.specs.declared.machine.What.{What}
use Rattle.sleep_model.specs.declared.machine.What.TheVariants as what
use Rattle.sleep_model.specs.declared.progress.Due.{Due}
use Rattle.sleep_model.specs.declared.progress.Due.TheVariants.{Makes, Waits, Nothing}
pub use Rattle.sleep_model.specs.declared.progress.Sleep.{Sleep}
use Rattle.sleep_model.specs.declared.progress.Stage.{Stage}
use Rattle.sleep_model.specs.declared.progress.Stage.TheVariants as stage
use Rattle.sleep_model.specs.Answers.{answer, answer_error}
use Rattle.sleep_model.specs.Devices.{callback, phase_failed, down_due, up_due, prepare_due, next_prepared, complete_due, next_completed}
use Rattle.sleep_model.specs.Freezer.{left}
use Rattle.sleep_model.specs.Guard.{pending}
use Rattle.sleep_model.specs.Notifiers.{next_notified, next_post_notified, next_cpu_off, next_cpu_on, next_syscore_suspended, next_syscore_resumed}
use Rattle.sleep_model.specs.Numbers.{time_of}
use Rattle.sleep_model.specs.Path.{attempts}
use Rattle.sleep_model.specs.Table.{stage_of, next_stage}
use Rattle.sleep_model.specs.Walk.{or_else}
use Rattle.sleep_model.specs.Word.{position}

-- what the machine answers for a thing in the open attempt
abbrev pub answered : Machine → List Entry → What → Option Errno
answered m past x = answer_error (answer m x (attempts past))

-- ---- the freeze of a group

-- since when a freeze goes on, after an entry (try_to_freeze_tasks)
abbrev pub freeze_since_after : Kind → ℕ → Option ℕ → Option ℕ
freeze_since_after (kind.Freeze g) time before = Some time
freeze_since_after (kind.Froze g end) time before = None
freeze_since_after _ time before = before

-- since when a freeze goes on, in ms, if one does (try_to_freeze_tasks)
abbrev pub freeze_since : List Entry → Option ℕ
freeze_since [] = None
freeze_since (e ∷ past) = freeze_since_after e.kind e.time (freeze_since past)

-- when a freeze gives up, in ms (freeze_timeout_msecs)
abbrev pub gives_up_at : ℕ → ℕ
gives_up_at since = since + 20000

-- a freeze ends if no task is left, else if its time is over, else if a wakeup is pending (try_to_freeze_tasks)
abbrev pub froze_due : List Entry → EventNow → Group → ℕ → List ℕ → Due
froze_due past now g since [] = Makes (kind.Froze g froze.AllFrozen)
froze_due past now g since (x ∷ rest) =
    if nat_le (gives_up_at since) (time_of past) then Makes (kind.Froze g (froze.Timeout (length (x ∷ rest)) x))
    else if pending past now then Makes (kind.Froze g (froze.Wakeup (length (x ∷ rest)) x))
    else Waits (why.Tasks (length (x ∷ rest)) (gives_up_at since))

-- a freeze of a group: it asks the group's tasks to freeze, then waits for them (freeze_processes, freeze_kernel_threads)
abbrev pub freeze_due : Machine → List Entry → EventNow → Group → Option ℕ → Due
freeze_due m past now g None = Makes (kind.Freeze g)
freeze_due m past now g (Some since) = froze_due past now g since (left m g past)

-- ---- sleep

-- the machine sleeps from there on, unless a wakeup was found (suspend_enter)
abbrev pub unless_busy : Bool → Option Sleep → Sleep → Option Sleep
unless_busy true before sleep = before
unless_busy false before sleep = Some sleep

-- whether the machine sleeps, after an entry made at that position and time (suspend_enter)
abbrev pub sleep_after : Kind → ℕ → ℕ → Option Sleep → Option Sleep
sleep_after (kind.Enter busy) pos time before = unless_busy busy before (record { pos = pos; since = time })
sleep_after (kind.Wake by_event) pos time before = None
sleep_after _ pos time before = before

-- the machine's sleep, if it sleeps (suspend_enter)
abbrev pub sleep_of : List Entry → Option Sleep
sleep_of [] = None
sleep_of (e ∷ past) = sleep_after e.kind (position e.now) e.time (sleep_of past)

-- the machine sleeps (suspend_enter)
abbrev pub sleeps_now : List Entry → Bool
sleeps_now past = is_some (sleep_of past)

-- a sleeping machine wakes by a step of the word, else by the alarm (suspend_enter, pm_wakeup_pending; the alarm is own)
abbrev pub wakes_due : Machine → List Entry → EventNow → Sleep → Due
wakes_due m past now s =
    if nat_lt s.pos (position now) then Makes (kind.Wake true)
    else if nat_le (s.since + m.alarm_ms) (time_of past) then Makes (kind.Wake false) else Waits why.Asleep

-- the entering: not if a wakeup is pending (suspend_enter)
abbrev pub enter_due : Machine → List Entry → EventNow → Option Sleep → Due
enter_due m past now None = Makes (kind.Enter (pending past now))
enter_due m past now (Some s) = wakes_due m past now s

-- ---- the error

-- EBUSY if a wakeup is pending (syscore_suspend)
abbrev pub busy_error : Bool → Option Errno
busy_error true = Some EBUSY
busy_error false = None

-- a freeze that leaves tasks is EBUSY (try_to_freeze_tasks)
abbrev pub freeze_error : FrozeEnd → Option Errno
freeze_error froze.AllFrozen = None
freeze_error _ = Some EBUSY

-- the error of the attempt, after an entry (enter_state)
abbrev pub failed_after : Kind → Option Errno → Option Errno
failed_after (kind.Attempt n guarded) before = None
failed_after (kind.NotifyPrepare x r) before = or_else r before
failed_after (kind.Froze g end) before = or_else (freeze_error end) before
failed_after (kind.PlatformDo step r) before = or_else r before
failed_after (kind.Done p r) before = or_else r before
failed_after (kind.CpuBusy k) before = Some EBUSY
failed_after (kind.SyscoreCheck r) before = or_else r before
failed_after (kind.SyscoreSuspend x r) before = or_else r before
failed_after (kind.Enter busy) before = or_else (busy_error busy) before
failed_after _ before = before

-- the error of the open attempt's stage that failed (pm_suspend)
abbrev pub failed : List Entry → Option Errno
failed [] = None
failed (e ∷ past) = failed_after e.kind (failed past)

-- ---- the stages

-- something that may be left to do (own)
abbrev pub if_left : (ℕ → Kind) → Option ℕ → Due
if_left k None = Nothing
if_left k (Some x) = Makes (k x)

-- the next processor is stopped, unless a wakeup is pending (freeze_secondary_cpus)
abbrev pub cpu_kind : Bool → ℕ → Kind
cpu_kind true k = kind.CpuBusy k
cpu_kind false k = kind.CpuOff k

-- what the maker makes at a stage, if that has anything left (enter_state, suspend_devices_and_enter, suspend_enter)
abbrev pub stage_due : Machine → List Entry → EventNow → Stage → Due
stage_due m past now stage.Notifies =
    if_left (λ x. kind.NotifyPrepare x (answered m past (what.Notifier x))) (next_notified m past)
stage_due m past now (stage.Freezes g) = freeze_due m past now g (freeze_since past)
stage_due m past now (stage.PlatformDo step) = Makes (kind.PlatformDo step (answered m past (what.Platform step)))
stage_due m past now stage.Prepares = prepare_due m past (phase_failed past) (next_prepared m past)
stage_due m past now (stage.Downs p) = down_due m past now p (callback past)
stage_due m past now stage.StopsCpus = if_left (cpu_kind (pending past now)) (next_cpu_off m past)
stage_due m past now stage.StopsIrqs = Makes (kind.Irqs false)
stage_due m past now stage.ChecksWakeup = Makes (kind.SyscoreCheck (busy_error (pending past now)))
stage_due m past now stage.StopsSyscore =
    if_left (λ x. kind.SyscoreSuspend x (answered m past (what.Syscore x))) (next_syscore_suspended m past)
stage_due m past now stage.Enters = enter_due m past now (sleep_of past)
stage_due m past now stage.StartsSyscore = if_left kind.SyscoreResume (next_syscore_resumed m past)
stage_due m past now stage.StartsIrqs = Makes (kind.Irqs true)
stage_due m past now stage.StartsCpus = if_left kind.CpuOn (next_cpu_on m past)
stage_due m past now (stage.PlatformUndo step) = Makes (kind.PlatformUndo step)
stage_due m past now (stage.Ups p) = up_due m past p (callback past)
stage_due m past now stage.Completes = complete_due (next_completed m past)
stage_due m past now stage.ClearsEventsCheck = Makes kind.Clear
stage_due m past now (stage.Thaws those) = Makes (kind.Thaw those)
stage_due m past now stage.NotifiesPost = if_left kind.NotifyPost (next_post_notified m past)
stage_due m past now stage.Ends = Makes (kind.Over (attempts past) (failed past))

-- the first that has anything (own)
abbrev pub or_next : Due → Due → Due
or_next Nothing next = next
or_next due next = due

-- what is made at a stage, or else at the one after it: of two in a row one always has something (suspend_enter)
abbrev pub stage_or_next : Machine → List Entry → EventNow → Stage → Due
stage_or_next m past now here = or_next (stage_due m past now here) (stage_due m past now (next_stage here))

-- what is made at the stage of the open attempt, if one is open (suspend_enter)
abbrev pub due_at : Machine → List Entry → EventNow → Option Stage → Due
due_at m past now None = Nothing
due_at m past now (Some here) = stage_or_next m past now here

-- what the open attempt's maker makes next (enter_state)
abbrev pub attempt_due : Machine → List Entry → EventNow → Due
attempt_due m past now = due_at m past now (stage_of past)
