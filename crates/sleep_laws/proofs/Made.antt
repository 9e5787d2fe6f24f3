-- What was due when an entry was made, in families: by the attempt's maker at a stage, by a task, by the work, by a device, by time.
use Rattle.std.proofs.Common.{◌≡◌, ◌+◌, ℕ, ℤ, Bool, true, false, not, ◌==◌, ◌&&◌, List, [], length, Option, Some, None, slice_get}
use Rattle.sleep_base.specs.declared.errno.Errno.{Errno}
use Rattle.sleep_base.specs.declared.errno.Errno.TheVariants.{EINTR, EBUSY, EINVAL}
use Rattle.sleep_model.specs.declared.entry.Actor.{Actor}
use Rattle.sleep_model.specs.declared.entry.Actor.TheVariants as actor
use Rattle.sleep_model.specs.declared.entry.Entry.{Entry}
use Rattle.sleep_model.specs.declared.entry.FrozeEnd.TheVariants as froze
use Rattle.sleep_model.specs.declared.entry.Group.TheVariants as group
use Rattle.sleep_model.specs.declared.entry.Kind.{Kind}
use Rattle.sleep_model.specs.declared.entry.Kind.TheVariants as kind
use Rattle.sleep_model.specs.declared.entry.SkipCause.TheVariants as skip
use Rattle.sleep_model.specs.declared.entry.State.{State}
use Rattle.sleep_model.specs.declared.entry.Thaw.TheVariants as thaw
use Rattle.sleep_model.specs.declared.machine.Machine.{Machine}
use Rattle.sleep_model.specs.declared.machine.Op.{Op}
use Rattle.sleep_model.specs.declared.machine.Op.TheVariants as op
use Rattle.sleep_model.specs.declared.machine.PlatDo.TheVariants as down
use Rattle.sleep_model.specs.declared.machine.PlatUndo.TheVariants as undo
use Rattle.sleep_model.specs.declared.machine.Script.{Script}
use Rattle.sleep_model.specs.declared.progress.ScriptPosition.{ScriptPosition}
use Rattle.sleep_model.specs.declared.progress.Stage.{Stage}
use Rattle.sleep_model.specs.declared.progress.Stage.TheVariants as stage
use Rattle.sleep_model.specs.declared.progress.PhaseState.TheVariants as phase_state
use Rattle.sleep_model.specs.declared.progress.Sleep.{Sleep}
use Rattle.sleep_model.specs.declared.progress.Work.{Work}
use Rattle.sleep_model.specs.declared.progress.Work.TheVariants.{Resting, Reading, Saving, Attempting, Looking, Napping, Closing}
use Rattle.sleep_model.specs.declared.progress.AsyncWork.TheVariants.{Scheduled, Inside}
use Rattle.sleep_model.specs.declared.word.EventNow.{EventNow}
use Rattle.phase_table.specs.declared.phase.Phase.{Phase}
use Rattle.phase_table.specs.declared.phase.Phase.TheVariants as phase
use Rattle.phase_table.specs.Phases.{mirror, tests_wakeup}
use Rattle.sleep_model.specs.Attempt.{failed, freeze_since, sleep_of, sleeps_now}
use Rattle.sleep_model.specs.Autosleep.{work, seen_count}
use Rattle.sleep_model.specs.Devices.{callback, phase_failed, phase_error, is_direct, is_async_device, state_in, waits_for_subordinates, waits_above, waits_down, waits_up, next_down, next_to_schedule, next_up, next_prepared, next_completed, async_work}
use Rattle.sleep_model.specs.Due.{is_over}
use Rattle.sleep_model.specs.Freezer.{freezing, left}
use Rattle.sleep_model.specs.Guard.{in_force, pending}
use Rattle.sleep_model.specs.Links.{link_add_due, link_state_due}
use Rattle.sleep_model.specs.Lock.{holder, is_on}
use Rattle.sleep_model.specs.Notifiers.{next_notified, next_post_notified, next_cpu_off, next_cpu_on, next_syscore_suspended, next_syscore_resumed}
use Rattle.sleep_model.specs.Numbers.{time_of}
use Rattle.sleep_model.specs.Path.{attempts, maker, is_actor}
use Rattle.sleep_model.specs.Runtime.{runtime_due}
use Rattle.sleep_model.specs.Scripts.{entry_steps}
use Rattle.sleep_model.specs.Positions.{positions, position_at}
use Rattle.sleep_model.specs.Table.{stage_of}
use Rattle.sleep_model.specs.Tasks.{is_line}
use Rattle.sleep_model.specs.Word.{visible}

-- ---- phases with devices

-- one of the three phases on the way down
pub data Down : Phase → Type 0 where
  InSuspend : Down phase.Suspend
  InLate : Down phase.Late
  InNoirq : Down phase.Noirq

-- one of the three phases on the way up
pub data Up : Phase → Type 0 where
  InResume : Up phase.Resume
  InEarly : Up phase.Early
  InResumeNoirq : Up phase.ResumeNoirq

-- ---- the maker of the open attempt

-- the walk down is at a synchronous device, whose turn it is
pub record AtTurn (m : Machine) (past : List Entry) (p : Phase) (d : ℕ) : Type 0 where
  pub free : callback past ≡ None
  pub well : phase_failed past ≡ None
  pub next : next_down m past p ≡ Some d
  pub beside : is_async_device m d ≡ false
  pub waits : waits_for_subordinates m past p d ≡ None

-- a phase on the way down ends by an error
pub record Breaks (m : Machine) (past : List Entry) (p : Phase) (r : Errno) : Type 0 where
  pub free : callback past ≡ None
  pub first : Errno
  pub fails : phase_failed past ≡ Some first
  pub waits : waits_down m past p ≡ None
  pub answers : phase_error past ≡ Some r

-- a phase on the way down ends well
pub record Settles (m : Machine) (past : List Entry) (p : Phase) : Type 0 where
  pub free : callback past ≡ None
  pub well : phase_failed past ≡ None
  pub next : next_down m past p ≡ None
  pub waits : waits_down m past p ≡ None

-- a phase on the way up, whose mirror is p, ends
pub record Rises (m : Machine) (past : List Entry) (p : Phase) : Type 0 where
  pub free : callback past ≡ None
  pub scheduled : next_to_schedule m past p ≡ None
  pub next : next_up m past p ≡ None
  pub waits : waits_up m past p ≡ None

-- what the maker makes at a stage, which has something left
pub data Made (m : Machine) (past : List Entry) (now : EventNow) : Stage → Kind → Type 0 where
  Notifies : (x : ℕ) → next_notified m past ≡ Some x → Made m past now stage.Notifies (kind.NotifyPrepare x None)
  NotifyFails : (x : ℕ) (r : Errno) → next_notified m past ≡ Some x → Made m past now stage.Notifies (kind.NotifyPrepare x (Some r))
  FreezesUser : freeze_since past ≡ None → Made m past now (stage.Freezes group.User) (kind.Freeze group.User)
  FreezesKernel : freeze_since past ≡ None → Made m past now (stage.Freezes group.Kernel) (kind.Freeze group.Kernel)
  FrozeUser : (since : ℕ) → freeze_since past ≡ Some since → left m group.User past ≡ [] → Made m past now (stage.Freezes group.User) (kind.Froze group.User froze.AllFrozen)
  FrozeKernel : (since : ℕ) → freeze_since past ≡ Some since → left m group.Kernel past ≡ [] → Made m past now (stage.Freezes group.Kernel) (kind.Froze group.Kernel froze.AllFrozen)
  UserTimesOut : (since n x : ℕ) → freeze_since past ≡ Some since → Made m past now (stage.Freezes group.User) (kind.Froze group.User (froze.Timeout n x))
  KernelTimesOut : (since n x : ℕ) → freeze_since past ≡ Some since → Made m past now (stage.Freezes group.Kernel) (kind.Froze group.Kernel (froze.Timeout n x))
  UserWakes : (since n x : ℕ) → freeze_since past ≡ Some since → pending past now ≡ true → Made m past now (stage.Freezes group.User) (kind.Froze group.User (froze.Wakeup n x))
  KernelWakes : (since n x : ℕ) → freeze_since past ≡ Some since → pending past now ≡ true → Made m past now (stage.Freezes group.Kernel) (kind.Froze group.Kernel (froze.Wakeup n x))
  PlatformBegins : Made m past now (stage.PlatformDo down.Begin) (kind.PlatformDo down.Begin None)
  PlatformPrepares : Made m past now (stage.PlatformDo down.Prepare) (kind.PlatformDo down.Prepare None)
  PlatformPreparesLate : Made m past now (stage.PlatformDo down.PrepareLate) (kind.PlatformDo down.PrepareLate None)
  BeginFails : (r : Errno) → Made m past now (stage.PlatformDo down.Begin) (kind.PlatformDo down.Begin (Some r))
  PrepareFails : (r : Errno) → Made m past now (stage.PlatformDo down.Prepare) (kind.PlatformDo down.Prepare (Some r))
  PrepareLateFails : (r : Errno) → Made m past now (stage.PlatformDo down.PrepareLate) (kind.PlatformDo down.PrepareLate (Some r))
  Prepares : (d : ℕ) (r : ℤ) → phase_failed past ≡ None → next_prepared m past ≡ Some d → Made m past now stage.Prepares (kind.Prepare d r)
  PreparesNot : (r : Errno) → phase_failed past ≡ Some r → Made m past now stage.Prepares (kind.Done phase.Prepare (Some r))
  Prepared : phase_failed past ≡ None → next_prepared m past ≡ None → Made m past now stage.Prepares (kind.Done phase.Prepare None)
  EndsDown : (p q : Phase) (d : ℕ) (r : Option Errno) → Down p → callback past ≡ Some (record { phase = q; device = d }) → Made m past now (stage.Downs p) (kind.End p d r)
  SchedulesDown : (p : Phase) (d : ℕ) → Down p → callback past ≡ None → phase_failed past ≡ None → next_down m past p ≡ Some d → is_async_device m d ≡ true → Made m past now (stage.Downs p) (kind.Schedule p d)
  FindsDown : (p : Phase) (d : ℕ) → Down p → AtTurn m past p d → tests_wakeup p ≡ true → pending past now ≡ true → Made m past now (stage.Downs p) (kind.Skip p d skip.Pending)
  LeavesDown : (p : Phase) (d : ℕ) → Down p → AtTurn m past p d → (tests_wakeup p && pending past now) ≡ false → is_direct m past p d ≡ true → Made m past now (stage.Downs p) (kind.Skip p d skip.Direct)
  BeginsDown : (p : Phase) (d : ℕ) → Down p → AtTurn m past p d → (tests_wakeup p && pending past now) ≡ false → is_direct m past p d ≡ false → Made m past now (stage.Downs p) (kind.Begin p d)
  SuspendFails : (r : Errno) → Breaks m past phase.Suspend r → Made m past now (stage.Downs phase.Suspend) (kind.Done phase.Suspend (Some r))
  LateFails : (r : Errno) → Breaks m past phase.Late r → Made m past now (stage.Downs phase.Late) (kind.Done phase.Late (Some r))
  NoirqFails : (r : Errno) → Breaks m past phase.Noirq r → Made m past now (stage.Downs phase.Noirq) (kind.Done phase.Noirq (Some r))
  SuspendEnds : Settles m past phase.Suspend → Made m past now (stage.Downs phase.Suspend) (kind.Done phase.Suspend None)
  LateEnds : Settles m past phase.Late → Made m past now (stage.Downs phase.Late) (kind.Done phase.Late None)
  NoirqEnds : Settles m past phase.Noirq → Made m past now (stage.Downs phase.Noirq) (kind.Done phase.Noirq None)
  StopsCpu : (k : ℕ) → next_cpu_off m past ≡ Some k → pending past now ≡ false → Made m past now stage.StopsCpus (kind.CpuOff k)
  FindsCpu : (k : ℕ) → next_cpu_off m past ≡ Some k → pending past now ≡ true → Made m past now stage.StopsCpus (kind.CpuBusy k)
  StopsIrqs : Made m past now stage.StopsIrqs (kind.Irqs false)
  Checks : pending past now ≡ false → Made m past now stage.ChecksWakeup (kind.SyscoreCheck None)
  FindsCheck : pending past now ≡ true → Made m past now stage.ChecksWakeup (kind.SyscoreCheck (Some EBUSY))
  StopsPart : (x : ℕ) → next_syscore_suspended m past ≡ Some x → Made m past now stage.StopsSyscore (kind.SyscoreSuspend x None)
  PartFails : (x : ℕ) (r : Errno) → next_syscore_suspended m past ≡ Some x → Made m past now stage.StopsSyscore (kind.SyscoreSuspend x (Some r))
  Enters : sleep_of past ≡ None → pending past now ≡ false → Made m past now stage.Enters (kind.Enter false)
  EntersNot : sleep_of past ≡ None → pending past now ≡ true → Made m past now stage.Enters (kind.Enter true)
  Wakes : (s : Sleep) (by_event : Bool) → sleep_of past ≡ Some s → Made m past now stage.Enters (kind.Wake by_event)
  StartsPart : (x : ℕ) → next_syscore_resumed m past ≡ Some x → Made m past now stage.StartsSyscore (kind.SyscoreResume x)
  StartsIrqs : Made m past now stage.StartsIrqs (kind.Irqs true)
  StartsCpu : (k : ℕ) → next_cpu_on m past ≡ Some k → Made m past now stage.StartsCpus (kind.CpuOn k)
  PlatformWakes : Made m past now (stage.PlatformUndo undo.Wake) (kind.PlatformUndo undo.Wake)
  PlatformFinishes : Made m past now (stage.PlatformUndo undo.Finish) (kind.PlatformUndo undo.Finish)
  PlatformRecovers : Made m past now (stage.PlatformUndo undo.Recover) (kind.PlatformUndo undo.Recover)
  PlatformEnds : Made m past now (stage.PlatformUndo undo.End) (kind.PlatformUndo undo.End)
  EndsUp : (p q : Phase) (d : ℕ) (r : Option Errno) → Up p → callback past ≡ Some (record { phase = q; device = d }) → Made m past now (stage.Ups p) (kind.End p d r)
  SchedulesUp : (p : Phase) (d : ℕ) → Up p → callback past ≡ None → next_to_schedule m past (mirror p) ≡ Some d → Made m past now (stage.Ups p) (kind.Schedule p d)
  BeginsUp : (p : Phase) (d : ℕ) → Up p → callback past ≡ None → next_to_schedule m past (mirror p) ≡ None → next_up m past (mirror p) ≡ Some d → waits_above m past (mirror p) d ≡ None → Made m past now (stage.Ups p) (kind.Begin p d)
  ResumeNoirqEnds : Rises m past phase.Noirq → Made m past now (stage.Ups phase.ResumeNoirq) (kind.Done phase.ResumeNoirq None)
  EarlyEnds : Rises m past phase.Late → Made m past now (stage.Ups phase.Early) (kind.Done phase.Early None)
  ResumeEnds : Rises m past phase.Suspend → Made m past now (stage.Ups phase.Resume) (kind.Done phase.Resume None)
  Completes : (d : ℕ) → next_completed m past ≡ Some d → Made m past now stage.Completes (kind.Complete d)
  Completed : next_completed m past ≡ None → Made m past now stage.Completes (kind.Done phase.Complete None)
  Clears : Made m past now stage.ClearsEventsCheck kind.Clear
  ThawsKernel : Made m past now (stage.Thaws thaw.Kernel) (kind.Thaw thaw.Kernel)
  ThawsAll : Made m past now (stage.Thaws thaw.All) (kind.Thaw thaw.All)
  Posts : (x : ℕ) → next_post_notified m past ≡ Some x → Made m past now stage.NotifiesPost (kind.NotifyPost x)
  Ends : Made m past now stage.Ends (kind.Over (attempts past) (failed past))

-- the stage that the maker comes to: the one under way, or the one after it if that has nothing left
pub data Comes (m : Machine) (past : List Entry) : Stage → Stage → Type 0 where
  AtOnce : (here : Stage) → Comes m past here here
  PastNotifiers : next_notified m past ≡ None → Comes m past stage.Notifies (stage.Freezes group.User)
  PastCpus : next_cpu_off m past ≡ None → Comes m past stage.StopsCpus stage.StopsIrqs
  PastParts : next_syscore_suspended m past ≡ None → Comes m past stage.StopsSyscore stage.Enters
  PastPartsUp : next_syscore_resumed m past ≡ None → Comes m past stage.StartsSyscore stage.StartsIrqs
  PastCpusUp : next_cpu_on m past ≡ None → Comes m past stage.StartsCpus (stage.PlatformUndo undo.Wake)
  PastPosts : next_post_notified m past ≡ None → Comes m past stage.NotifiesPost stage.Ends

-- ---- tasks

-- what a task, asked to freeze or not, makes at an operation
pub data StepMade (m : Machine) (past : List Entry) (now : EventNow) (position : ScriptPosition) (asked : Bool) : Option Op → Kind → Type 0 where
  Exits : StepMade m past now position asked None kind.Exit
  Reads : (now.inpr == 0) ≡ true → StepMade m past now position asked (Some op.Read) (kind.Read (visible now))
  ReadWaits : (now.inpr == 0) ≡ false → position.waits ≡ false → StepMade m past now position asked (Some op.Read) kind.ReadWait
  ReadStops : (now.inpr == 0) ≡ false → position.waits ≡ true → asked ≡ true → StepMade m past now position asked (Some op.Read) kind.ReadIntr
  SaveWaits : (c : ℕ) (count : Option ℕ) → position.waits ≡ false → StepMade m past now position asked (Some (op.Save count)) (kind.SaveWait c)
  SaveStops : (c : ℕ) (count : Option ℕ) → position.waits ≡ true → asked ≡ true → StepMade m past now position asked (Some (op.Save count)) (kind.SaveErr c EINTR)
  SaveBusy : (c : ℕ) (count : Option ℕ) → holder past ≡ None → is_on past ≡ true → StepMade m past now position asked (Some (op.Save count)) (kind.SaveErr c EBUSY)
  Saves : (c : ℕ) (count : Option ℕ) → holder past ≡ None → is_on past ≡ false → (visible now == c) ≡ true → (now.inpr == 0) ≡ true → StepMade m past now position asked (Some (op.Save count)) (kind.Saved c)
  SavesNot : (c : ℕ) (count : Option ℕ) → holder past ≡ None → is_on past ≡ false → ((visible now == c) && (now.inpr == 0)) ≡ false → StepMade m past now position asked (Some (op.Save count)) (kind.SaveErr c EINVAL)
  Unsaved : (text : List ℕ) (if_saved : Bool) → position.saved ≡ false → StepMade m past now position asked (Some (op.State text if_saved)) kind.StateUnsaved
  StateWaits : (text : List ℕ) (if_saved : Bool) → position.waits ≡ false → StepMade m past now position asked (Some (op.State text if_saved)) kind.StateWait
  StateStops : (text : List ℕ) (if_saved : Bool) → position.waits ≡ true → asked ≡ true → StepMade m past now position asked (Some (op.State text if_saved)) (kind.StateErr EINTR)
  StateBusy : (text : List ℕ) (if_saved : Bool) → holder past ≡ None → is_on past ≡ true → StepMade m past now position asked (Some (op.State text if_saved)) (kind.StateErr EBUSY)
  StateBad : (text : List ℕ) (if_saved : Bool) → holder past ≡ None → is_on past ≡ false → StepMade m past now position asked (Some (op.State text if_saved)) (kind.StateErr EINVAL)
  Attempts : (text : List ℕ) (if_saved : Bool) → holder past ≡ None → is_on past ≡ false → StepMade m past now position asked (Some (op.State text if_saved)) (kind.Attempt (attempts past + 1) (in_force past))
  AutoBad : (text : List ℕ) → StepMade m past now position asked (Some (op.Autosleep text)) kind.AutoBad
  AutoEnds : (text : List ℕ) → position.waits ≡ true → StepMade m past now position asked (Some (op.Autosleep text)) kind.AutoDone
  AutoSets : (text : List ℕ) (state : State) → position.waits ≡ false → holder past ≡ None → StepMade m past now position asked (Some (op.Autosleep text)) (kind.AutoSet state)
  Sleeps : (ms until : ℕ) → position.waits ≡ false → StepMade m past now position asked (Some (op.Sleep ms)) (kind.Sleep until)
  Slept : (ms until : ℕ) → position.waits ≡ true → position.until ≡ Some until → StepMade m past now position asked (Some (op.Sleep ms)) kind.Slept
  SleepsD : (ms until : ℕ) → position.waits ≡ false → StepMade m past now position asked (Some (op.SleepD ms)) (kind.SleepD until)
  SleptD : (ms until : ℕ) → position.waits ≡ true → position.until ≡ Some until → StepMade m past now position asked (Some (op.SleepD ms)) kind.Slept
  Passes : StepMade m past now position asked (Some op.FreezePoint) kind.Pass
  Posts : (mark : ℕ) → StepMade m past now position asked (Some (op.Post mark)) (kind.Post mark)
  Gets : (mark : ℕ) → StepMade m past now position asked (Some (op.Wait mark)) (kind.Got mark)
  AddsLink : (supplier consumer : ℕ) (r : Option Errno) → link_add_due m past supplier consumer ≡ r → StepMade m past now position asked (Some (op.Link supplier consumer)) (kind.LinkAdd supplier consumer r)
  SetsLink : (supplier consumer : ℕ) (active : Bool) (r : Option Errno) → link_state_due m past supplier consumer ≡ r → StepMade m past now position asked (Some (op.LinkState supplier consumer active)) (kind.LinkState supplier consumer active r)
  AsksRuntime : (d : ℕ) (to_suspended : Bool) → StepMade m past now position asked (Some (op.Runtime d to_suspended)) (kind.RuntimeAsk d to_suspended (runtime_due m d to_suspended past))

-- the position of script i (own)
abbrev pub position_of : Machine → List Entry → ℕ → ScriptPosition
position_of m past i = position_at (positions (length m.actors) past) i

-- a task that may go on: it has not exited, is not frozen, and the machine does not sleep, unless it is an interrupt line
pub record MayGo (m : Machine) (past : List Entry) (i : ℕ) (s : Script) : Type 0 where
  pub script : slice_get m.actors i ≡ Some s
  pub there : (position_of m past i).exited ≡ false
  pub thawed : (freezing m i past).frozen ≡ false
  pub awake : (sleeps_now past && not (is_line s.kind)) ≡ false

-- what script i makes outside attempts of its own
pub data TaskMade (m : Machine) (past : List Entry) (now : EventNow) (i : ℕ) : Kind → Type 0 where
  Freezes : (s : Script) → MayGo m past i s → (freezing m i past).asked ≡ true → TaskMade m past now i kind.Frozen
  Steps : (s : Script) (k : Kind) (o : Option Op) → MayGo m past i s → slice_get (entry_steps s) (position_of m past i).done ≡ o → StepMade m past now (position_of m past i) (freezing m i past).asked o k → TaskMade m past now i k

-- ---- the autosleep work

-- what the work makes outside attempts of its own, by its state
pub data WorkMade (m : Machine) (past : List Entry) (now : EventNow) : Work → Kind → Type 0 where
  Runs : WorkMade m past now Resting kind.AutoRun
  Reads : (now.inpr == 0) ≡ true → WorkMade m past now Reading (kind.Read (visible now))
  Saves : (c : ℕ) → holder past ≡ None → (visible now == c) ≡ true → (now.inpr == 0) ≡ true → WorkMade m past now (Saving c) (kind.AutoSaved c)
  SavesNot : (c : ℕ) → holder past ≡ None → ((visible now == c) && (now.inpr == 0)) ≡ false → WorkMade m past now (Saving c) (kind.AutoUnsaved c)
  Attempts : (c : ℕ) → is_on past ≡ true → WorkMade m past now (Attempting c) (kind.Attempt (attempts past + 1) (in_force past))
  Stops : (c : ℕ) → is_on past ≡ false → WorkMade m past now (Attempting c) kind.AutoOff
  Looks : (c : ℕ) → WorkMade m past now (Looking c) (kind.AutoAfter (seen_count now))
  Naps : WorkMade m past now (Napping None) (kind.SleepD (time_of past + 500))
  Slept : (until : ℕ) → WorkMade m past now (Napping (Some until)) kind.Slept
  Again : is_on past ≡ true → WorkMade m past now Closing kind.AutoAgain
  Closes : is_on past ≡ false → WorkMade m past now Closing kind.AutoOff

-- ---- an asynchronous device

-- a device that was scheduled in phase p on the way down, and waits for none below it
pub record ScheduledAt (m : Machine) (past : List Entry) (p : Phase) (d : ℕ) : Type 0 where
  pub beside : is_async_device m d ≡ true
  pub work : async_work m past d ≡ Scheduled p
  pub states : state_in m past p d ≡ phase_state.Scheduled
  pub waits : waits_for_subordinates m past p d ≡ None

-- what device d makes of its own
pub data DeviceMade (m : Machine) (past : List Entry) (now : EventNow) (d : ℕ) : Kind → Type 0 where
  OwnFails : (p : Phase) (r : Errno) → Down p → ScheduledAt m past p d → phase_failed past ≡ Some r → DeviceMade m past now d (kind.Skip p d skip.Error)
  OwnFinds : (p : Phase) → Down p → ScheduledAt m past p d → phase_failed past ≡ None → tests_wakeup p ≡ true → pending past now ≡ true → DeviceMade m past now d (kind.Skip p d skip.Pending)
  OwnLeaves : (p : Phase) → Down p → ScheduledAt m past p d → phase_failed past ≡ None → (tests_wakeup p && pending past now) ≡ false → is_direct m past p d ≡ true → DeviceMade m past now d (kind.Skip p d skip.Direct)
  OwnBegins : (p : Phase) → Down p → ScheduledAt m past p d → phase_failed past ≡ None → (tests_wakeup p && pending past now) ≡ false → is_direct m past p d ≡ false → DeviceMade m past now d (kind.Begin p d)
  OwnRises : (p : Phase) → Up p → is_async_device m d ≡ true → async_work m past d ≡ Scheduled p → state_in m past (mirror p) d ≡ phase_state.Rescheduled → waits_above m past (mirror p) d ≡ None → DeviceMade m past now d (kind.Begin p d)
  OwnEnds : (p : Phase) (r : Option Errno) → Down p → is_async_device m d ≡ true → async_work m past d ≡ Inside p → state_in m past p d ≡ phase_state.Suspending → DeviceMade m past now d (kind.End p d r)
  OwnRose : (p : Phase) (r : Option Errno) → Up p → is_async_device m d ≡ true → async_work m past d ≡ Inside p → state_in m past (mirror p) d ≡ phase_state.Resuming → DeviceMade m past now d (kind.End p d r)

-- ---- all

-- an entry of that actor and kind is rightly made after these: by the open attempt's maker, by a task, by the work, by a device, or a jump
pub data EntryMade (m : Machine) (past : List Entry) (now : EventNow) : Actor → Kind → Type 0 where
  ByMaker : (who : Actor) (here there : Stage) (k : Kind) → is_actor who (maker past) ≡ true → stage_of past ≡ Some here → Comes m past here there → Made m past now there k → EntryMade m past now who k
  ByTask : (i : ℕ) (k : Kind) → is_actor (actor.Script i) (maker past) ≡ false → TaskMade m past now i k → EntryMade m past now (actor.Script i) k
  ByWork : (w : Work) (k : Kind) → is_actor actor.Auto (maker past) ≡ false → sleeps_now past ≡ false → is_over m past ≡ false → work past ≡ w → WorkMade m past now w k → EntryMade m past now actor.Auto k
  ByDevice : (d : ℕ) (k : Kind) → is_actor (actor.Dev d) (maker past) ≡ false → DeviceMade m past now d k → EntryMade m past now (actor.Dev d) k
  ByTime : EntryMade m past now actor.Time kind.Jump
