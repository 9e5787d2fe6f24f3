-- What the entries of the journal passed so far leave: of the open attempt, of the tasks, of the devices.
use Rattle.std.specs.Prelude.{◌≡◌, ℕ, Bool, true, false, List, ◌∷◌, length, Option}
use Rattle.sleep_base.specs.declared.errno.Errno.{Errno}
use Rattle.sleep_model.specs.declared.entry.Actor.{Actor}
use Rattle.sleep_model.specs.declared.entry.Entry.{Entry}
use Rattle.sleep_model.specs.declared.entry.Kind.{Kind}
use Rattle.sleep_model.specs.declared.entry.Kind.TheVariants as kind
use Rattle.sleep_model.specs.declared.machine.Machine.{Machine}
use Rattle.sleep_model.specs.declared.machine.PlatDo.{PlatDo}
use Rattle.sleep_model.specs.declared.machine.PlatDo.TheVariants as down
use Rattle.sleep_model.specs.declared.machine.Script.{Script}
use Rattle.sleep_model.specs.declared.progress.Callback.{Callback}
use Rattle.sleep_model.specs.declared.progress.Freezing.{Freezing}
use Rattle.sleep_model.specs.declared.progress.ScriptPosition.{ScriptPosition}
use Rattle.sleep_model.specs.declared.progress.Sleep.{Sleep}
use Rattle.sleep_model.specs.declared.progress.Stage.{Stage}
use Rattle.sleep_model.specs.declared.progress.Work.{Work}
use Rattle.sleep_model.specs.Attempt.{failed, failed_after, freeze_since, freeze_since_after, sleep_of, sleep_after}
use Rattle.sleep_model.specs.Autosleep.{work, work_after, is_queued, queued_after, runs, runs_after}
use Rattle.sleep_model.specs.Devices.{callback, callback_after, is_device, phase_failed, phase_failed_after, own_error, own_error_after, asks_direct, asks_direct_after}
use Rattle.sleep_model.specs.Freezer.{freezings, freezings_after}
use Rattle.sleep_model.specs.Guard.{in_force, force_after, count_effect, forgotten, forgotten_after}
use Rattle.sleep_model.specs.Laws.{entered, entered_after}
use Rattle.sleep_model.specs.Lock.{holder, holder_after, is_on, on_after}
use Rattle.sleep_model.specs.Marks.{raised, marks_after}
use Rattle.sleep_model.specs.Notifiers.{notified_flags, notified_after, cpus_off, cpus_off_after, stopped, stopped_after, irqs_off, irqs_off_after, owes_platform, owes_platform_after}
use Rattle.sleep_model.specs.Numbers.{time_of, time_after}
use Rattle.sleep_model.specs.Path.{attempts, attempts_after, maker, maker_after}
use Rattle.sleep_model.specs.Runtime.{statuses, statuses_after, disabled_by_direct, disabled_by_direct_after, disabled_by_late, disabled_by_late_after}
use Rattle.sleep_model.specs.Positions.{positions, positions_after, position_effect}
use Rattle.sleep_model.specs.PhaseStates.{device_of}
use Rattle.sleep_model.specs.Table.{stage_of, stage_after}
use Rattle.sleep_model.specs.Word.{position}
use Rattle.check_account.specs.PairStates.{PairStatesSeen, pairs_after, pairs_of}

-- ---- the open attempt

-- the time, the saved count with the hard events that are forgotten, the open attempt, and its phase (saved_count, enter_state,
-- dpm_suspend)
pub record AttemptState : Type 0 where
  pub time : ℕ
  pub force : Option ℕ
  pub forgotten : ℕ
  pub attempts : ℕ
  pub maker : Option Actor
  pub stage : Option Stage
  pub failed : Option Errno
  pub entered : Bool
  pub freeze_since : Option ℕ
  pub sleep : Option Sleep
  pub callback : Option Callback
  pub phase_failed : Option Errno
  pub own_error : Option Errno
  pub disabled_by_direct : Bool
  pub disabled_by_late : Bool
  pub irqs_off : Bool
  pub begun : Bool
  pub prepared : Bool
  pub prepared_late : Bool

-- these after one more entry (own)
abbrev pub attempt_after : Entry → AttemptState → AttemptState
attempt_after e before = record {
  time = time_after e.kind e.time before.time;
  force = force_after (count_effect e.kind) e.now before.force;
  forgotten = forgotten_after e.kind e.now before.forgotten;
  attempts = attempts_after e.kind before.attempts;
  maker = maker_after e.kind e.actor before.maker;
  stage = stage_after e.kind before.stage;
  failed = failed_after e.kind before.failed;
  entered = entered_after e.kind before.entered;
  freeze_since = freeze_since_after e.kind e.time before.freeze_since;
  sleep = sleep_after e.kind (position e.now) e.time before.sleep;
  callback = callback_after e.kind (is_device e.actor) before.callback;
  phase_failed = phase_failed_after e.kind before.phase_failed;
  own_error = own_error_after e.kind (is_device e.actor) before.own_error;
  disabled_by_direct = disabled_by_direct_after e.kind before.disabled_by_direct;
  disabled_by_late = disabled_by_late_after e.kind before.disabled_by_late;
  irqs_off = irqs_off_after e.kind before.irqs_off;
  begun = owes_platform_after e.kind down.Begin before.begun;
  prepared = owes_platform_after e.kind down.Prepare before.prepared;
  prepared_late = owes_platform_after e.kind down.PrepareLate before.prepared_late;
}

-- these after the entries of a journal, the newest first: what the definitions read from them (own)
abbrev pub attempt_of : List Entry → AttemptState
attempt_of past = record {
  time = time_of past;
  force = in_force past;
  forgotten = forgotten past;
  attempts = attempts past;
  maker = maker past;
  stage = stage_of past;
  failed = failed past;
  entered = entered past;
  freeze_since = freeze_since past;
  sleep = sleep_of past;
  callback = callback past;
  phase_failed = phase_failed past;
  own_error = own_error past;
  disabled_by_direct = disabled_by_direct past;
  disabled_by_late = disabled_by_late past;
  irqs_off = irqs_off past;
  begun = owes_platform down.Begin past;
  prepared = owes_platform down.Prepare past;
  prepared_late = owes_platform down.PrepareLate past;
}

-- an entry of a device that is prepared, scheduled, called back or completed (device_prepare, dpm_run_callback, device_complete)
abbrev pub is_of_device : Kind → Bool
is_of_device (kind.Prepare d r) = true
is_of_device (kind.Complete d) = true
is_of_device (kind.Schedule p d) = true
is_of_device (kind.Begin p d) = true
is_of_device (kind.End p d r) = true
is_of_device _ = false

-- an entry of a task that sleeps, passes a freeze point, or raises or takes a mark: it is of no attempt and no device (own)
abbrev pub is_of_task : Kind → Bool
is_of_task (kind.Sleep until) = true
is_of_task (kind.SleepD until) = true
is_of_task kind.Slept = true
is_of_task kind.Pass = true
is_of_task (kind.Post mark) = true
is_of_task (kind.Got mark) = true
is_of_task _ = false

-- that step of the platform is owed its undo (platform_resume_end, platform_resume_finish, platform_resume_noirq)
abbrev pub owes_by : AttemptState → PlatDo → Bool
owes_by a down.Begin = a.begun
owes_by a down.Prepare = a.prepared
owes_by a down.PrepareLate = a.prepared_late

-- ---- the tasks

-- each task's freezing, each script's position, the marks, and autosleep with its work (freeze_task, autosleep_lock, try_to_suspend)
pub record TaskState : Type 0 where
  pub freezings : List Freezing
  pub positions : List ScriptPosition
  pub raised : List ℕ
  pub holder : Option Actor
  pub on : Bool
  pub work : Work
  pub queued : Bool
  pub runs : ℕ

-- these after one more entry, among these scripts (own)
abbrev pub tasks_after : List Script → Entry → TaskState → TaskState
tasks_after scripts e before = record {
  freezings = freezings_after scripts e.actor e.kind before.freezings;
  positions = positions_after e.actor (position_effect e.kind) before.positions;
  raised = marks_after e.kind before.raised;
  holder = holder_after e.kind e.actor before.holder;
  on = on_after e.kind before.on;
  work = work_after e.actor e.kind before.work;
  queued = queued_after e.kind before.on before.queued;
  runs = runs_after e.kind before.runs;
}

-- these after the entries of a machine's journal, the newest first (own)
abbrev pub tasks_of : Machine → List Entry → TaskState
tasks_of m past = record {
  freezings = freezings m.actors past;
  positions = positions (length m.actors) past;
  raised = raised (length m.marks) past;
  holder = holder past;
  on = is_on past;
  work = work past;
  queued = is_queued past;
  runs = runs past;
}

-- ---- the devices

-- what the entries leave of devices, notifiers, processors and syscore operations (struct dev_pm_info, frozen_cpus, syscore_ops_list)
pub record DeviceState : Type 0 where
  pub pairs : PairStatesSeen
  pub asks_direct : List Bool
  pub statuses : List Bool
  pub notified : List Bool
  pub cpus_off : List Bool
  pub stopped : List Bool

-- these after one more entry (own)
abbrev pub devices_after : Kind → DeviceState → DeviceState
devices_after k before = record {
  pairs = pairs_after k (device_of k) before.pairs;
  asks_direct = asks_direct_after k before.asks_direct;
  statuses = statuses_after k before.statuses;
  notified = notified_after k before.notified;
  cpus_off = cpus_off_after k before.cpus_off;
  stopped = stopped_after k before.stopped;
}

-- these after the entries of a machine's journal, the newest first (own)
abbrev pub devices_of : Machine → List Entry → DeviceState
devices_of m past = record {
  pairs = pairs_of (length m.devices) past;
  asks_direct = asks_direct (length m.devices) past;
  statuses = statuses m.devices past;
  notified = notified_flags m past;
  cpus_off = cpus_off m.cpus past;
  stopped = stopped (length m.syscore) past;
}

-- ---- the laws

-- an entry moves what the entries before it left to what all leave (own)
pub record AccountsFollow (m : Machine) (past : List Entry) (e : Entry) : Type 0 where
  pub attempt : attempt_after e (attempt_of past) ≡ attempt_of (e ∷ past)
  pub tasks : tasks_after m.actors e (tasks_of m past) ≡ tasks_of m (e ∷ past)
  pub devices : devices_after e.kind (devices_of m past) ≡ devices_of m (e ∷ past)

-- so for every machine and every journal (own)
abbrev pub AllFollow : Type 0
AllFollow = (m : Machine) (past : List Entry) (e : Entry) → AccountsFollow m past e

-- each script of a machine has its state of freezing (own)
abbrev pub EachIsKnown : Type 0
EachIsKnown = (scripts : List Script) (past : List Entry) → length (freezings scripts past) ≡ length scripts
