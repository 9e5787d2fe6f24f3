-- Each actor's own steps, once and in order.
use Rattle.std.specs.Prelude.{◌≡◌, ◌+◌, ℕ, Bool, true, false, ◌&&◌, ◌||◌, nat_le, List, length, Option, Some, None, slice_get, if◌then◌else◌}
use Rattle.sleep_model.specs.declared.entry.Actor.{Actor}
use Rattle.sleep_model.specs.declared.entry.Actor.TheVariants as actor
use Rattle.sleep_model.specs.declared.entry.Entry.{Entry}
use Rattle.sleep_model.specs.declared.entry.Kind.{Kind}
use Rattle.sleep_model.specs.declared.entry.Kind.TheVariants as kind
use Rattle.sleep_model.specs.declared.entry.State.TheVariants.{Mem, Off}
use Rattle.sleep_model.specs.declared.machine.Machine.{Machine}
use Rattle.sleep_model.specs.declared.machine.Op.{Op}
use Rattle.sleep_model.specs.declared.machine.Op.TheVariants as op
use Rattle.sleep_model.specs.declared.machine.Script.{Script}
use Rattle.sleep_model.specs.declared.progress.AsyncWork.{AsyncWork}
use Rattle.sleep_model.specs.declared.progress.AsyncWork.TheVariants.{Scheduled, Inside}
use Rattle.sleep_model.specs.declared.progress.Due.TheVariants.{Makes}
use Rattle.sleep_model.specs.declared.progress.ScriptPosition.{ScriptPosition}
use Rattle.sleep_model.specs.declared.progress.Work.{Work}
use Rattle.sleep_model.specs.declared.progress.Work.TheVariants.{Resting, Reading, Saving, Attempting, Looking, Napping, Closing}
use Rattle.sleep_model.specs.declared.word.EventNow.{EventNow}
use Rattle.sleep_model.specs.declared.word.WordKind.{WordKind}
use Rattle.sleep_model.specs.Autosleep.{may_run, seen_count, work}
use Rattle.sleep_model.specs.Devices.{async_work, is_async_device}
use Rattle.sleep_model.specs.Laws.{is_of_count_read, is_of_count_save, is_pass, is_exit}
use Rattle.sleep_model.specs.Lock.{is_on}
use Rattle.sleep_model.specs.Marks.{mark_at, raised}
use Rattle.sleep_model.specs.Numbers.{numbers, time_of}
use Rattle.sleep_model.specs.Steps.{sleep_due, mark_due}
use Rattle.sleep_model.specs.Tasks.{is_mem, is_off, is_user, freezes_at}
use Rattle.rule_definitions.specs.Questions.{is_maker, position_of, op_of}
use Rattle.sleep_model.specs.Calls.{is_left}
use Rattle.sleep_model.specs.Legal.{IsOwnTurn, IsOwnCall, IsOutside}
use Rattle.sleep_model.specs.EntryClasses.{EntryClass, OfJournal, Notes, Moves, OfTime, journal}
use Rattle.sleep_model.specs.Path.{is_actor}
use Rattle.sleep_model.specs.Sources.{history, owed, caller, IsNext}

-- ---- a script

-- an entry of a write to the state, up to the beginning of its attempt (state_store)
abbrev pub is_of_state_write : Kind → Bool
is_of_state_write kind.StateWait = true
is_of_state_write (kind.StateErr r) = true
is_of_state_write kind.StateUnsaved = true
is_of_state_write (kind.Attempt n guarded) = true
is_of_state_write _ = false

-- a write of that text to autosleep: a good one first sets the state that it names, then lets go (autosleep_store, pm_autosleep_set_state)
abbrev pub IsOfAutosleep : Bool → Bool → Bool → Kind → Type 0
IsOfAutosleep begun mem off kind.AutoBad = Unit {0}
IsOfAutosleep begun mem off (kind.AutoSet state) = ((mem || off) ≡ true) × (begun ≡ false) × (state ≡ (if mem then Mem else Off))
IsOfAutosleep begun mem off kind.AutoDone = ((mem || off) ≡ true) × (begun ≡ true)
IsOfAutosleep begun mem off _ = ⊥

-- a post to that mark (own)
abbrev pub IsPostOf : ℕ → Kind → Type 0
IsPostOf mark (kind.Post other) = other ≡ mark
IsPostOf mark _ = ⊥

-- a request for that runtime status of that device (pm_runtime_set_active, pm_runtime_set_suspended)
abbrev pub IsRequestOf : ℕ → Bool → Kind → Type 0
IsRequestOf d to_suspended (kind.RuntimeAsk e to r) = (e ≡ d) × (to ≡ to_suspended)
IsRequestOf d to_suspended _ = ⊥

-- a new link between those two (device_link_add)
abbrev pub IsLinkOf : ℕ → ℕ → Kind → Type 0
IsLinkOf supplier consumer (kind.LinkAdd s c r) = (s ≡ supplier) × (c ≡ consumer)
IsLinkOf supplier consumer _ = ⊥

-- that state of the link between those two (device_links_driver_bound)
abbrev pub IsLinkStateOf : ℕ → ℕ → Bool → Kind → Type 0
IsLinkStateOf supplier consumer active (kind.LinkState s c to r) = (s ≡ supplier) × (c ≡ consumer) × (to ≡ active)
IsLinkStateOf supplier consumer active _ = ⊥

-- an entry of that operation, or the exit after the last (kernel/power/main.c; scripts are own)
abbrev pub IsOfOp : Machine → List Entry → ScriptPosition → Option Op → Kind → Type 0
IsOfOp m past position None k = is_exit k ≡ true
IsOfOp m past position (Some op.Read) k = is_of_count_read k ≡ true
IsOfOp m past position (Some (op.Save count)) k = is_of_count_save k ≡ true
IsOfOp m past position (Some (op.State text if_saved)) k = is_of_state_write k ≡ true
IsOfOp m past position (Some (op.Autosleep text)) k = IsOfAutosleep position.waits (is_mem text) (is_off text) k
IsOfOp m past position (Some (op.Sleep ms)) k = sleep_due kind.Sleep ms position (time_of past) ≡ Makes k
IsOfOp m past position (Some (op.SleepD ms)) k = sleep_due kind.SleepD ms position (time_of past) ≡ Makes k
IsOfOp m past position (Some op.FreezePoint) k = is_pass k ≡ true
IsOfOp m past position (Some (op.Post mark)) k = IsPostOf mark k
IsOfOp m past position (Some (op.Wait mark)) k = mark_due mark (mark_at (raised (length m.marks) past) mark) ≡ Makes k
IsOfOp m past position (Some (op.Runtime d to_suspended)) k = IsRequestOf d to_suspended k
IsOfOp m past position (Some (op.Link supplier consumer)) k = IsLinkOf supplier consumer k
IsOfOp m past position (Some (op.LinkState supplier consumer active)) k = IsLinkStateOf supplier consumer active k
IsOfOp m past position (Some _) k = ⊥

-- an entry of the operation; or that the task freezes, at one that has a freeze point (try_to_freeze)
abbrev pub IsStep : Machine → List Entry → Bool → ScriptPosition → Option Op → Kind → Type 0
IsStep m past user position o kind.Frozen = freezes_at user position.waits o ≡ true
IsStep m past user position o k = IsOfOp m past position o k

-- a script that is there and has not exited is at its operation (do_exit; scripts are own)
abbrev pub IsScriptStep : Machine → List Entry → ScriptPosition → Option Op → Option Script → Kind → Type 0
IsScriptStep m past position o None k = ⊥
IsScriptStep m past position o (Some s) k = (position.exited ≡ false) × IsStep m past (is_user s.kind) position o k

-- ---- autosleep's work, and devices

-- an entry of the work, in that state of it (try_to_suspend)
abbrev pub IsWorkStep : Machine → List Entry → EventNow → Work → Kind → Type 0
IsWorkStep m past now Resting kind.AutoRun = may_run m past ≡ true
IsWorkStep m past now Reading (kind.Read c) = Unit {0}
IsWorkStep m past now (Saving c) (kind.AutoSaved b) = Unit {0}
IsWorkStep m past now (Saving c) (kind.AutoUnsaved b) = Unit {0}
IsWorkStep m past now (Attempting c) (kind.Attempt n guarded) = Unit {0}
IsWorkStep m past now (Attempting c) kind.AutoOff = is_on past ≡ false
IsWorkStep m past now (Looking c) (kind.AutoAfter seen) = seen ≡ seen_count now
IsWorkStep m past now (Napping None) (kind.SleepD until) = until ≡ time_of past + 500
IsWorkStep m past now (Napping (Some until)) kind.Slept = nat_le until (time_of past) ≡ true
IsWorkStep m past now Closing kind.AutoAgain = is_on past ≡ true
IsWorkStep m past now Closing kind.AutoOff = is_on past ≡ false
IsWorkStep m past now _ _ = ⊥

-- an entry of asynchronous device d: if it is scheduled it begins or is passed over, inside its callback it ends (async_suspend,
-- async_resume)
abbrev pub IsDeviceStep : ℕ → AsyncWork → Kind → Type 0
IsDeviceStep d (Scheduled p) (kind.Begin q e) = (e ≡ d) × (q ≡ p)
IsDeviceStep d (Scheduled p) (kind.Skip q e cause) = (e ≡ d) × (q ≡ p)
IsDeviceStep d (Inside p) (kind.End q e r) = (e ≡ d) × (q ≡ p)
IsDeviceStep d _ _ = ⊥

-- an entry of an attempt, whose walk itself begins, ends and passes over only synchronous devices (enter_state, suspend_devices_and_enter,
-- suspend_enter, dpm_async_fn)
abbrev pub IsMakerStep : Machine → Kind → Type 0
IsMakerStep m (kind.Begin p d) = is_async_device m d ≡ false
IsMakerStep m (kind.End p d r) = is_async_device m d ≡ false
IsMakerStep m (kind.Skip p d cause) = is_async_device m d ≡ false
IsMakerStep m (kind.Over n r) = Unit {0}
IsMakerStep m (kind.NotifyPrepare x r) = Unit {0}
IsMakerStep m (kind.NotifyPost x) = Unit {0}
IsMakerStep m (kind.Freeze g) = Unit {0}
IsMakerStep m (kind.Froze g end) = Unit {0}
IsMakerStep m (kind.Thaw those) = Unit {0}
IsMakerStep m (kind.PlatformDo step r) = Unit {0}
IsMakerStep m (kind.PlatformUndo step) = Unit {0}
IsMakerStep m (kind.Prepare d r) = Unit {0}
IsMakerStep m (kind.Complete d) = Unit {0}
IsMakerStep m (kind.Schedule p d) = Unit {0}
IsMakerStep m (kind.Done p r) = Unit {0}
IsMakerStep m (kind.CpuOff x) = Unit {0}
IsMakerStep m (kind.CpuBusy x) = Unit {0}
IsMakerStep m (kind.CpuOn x) = Unit {0}
IsMakerStep m (kind.Irqs on) = Unit {0}
IsMakerStep m (kind.SyscoreCheck r) = Unit {0}
IsMakerStep m (kind.SyscoreSuspend x r) = Unit {0}
IsMakerStep m (kind.SyscoreResume x) = Unit {0}
IsMakerStep m (kind.Enter busy) = Unit {0}
IsMakerStep m (kind.Wake by_event) = Unit {0}
IsMakerStep m kind.Clear = Unit {0}
IsMakerStep m _ = ⊥

-- ---- all

-- an entry of an actor that makes the open attempt, or of its own steps: timers and time make none of the journal (own)
abbrev pub StepsOf : Machine → List Entry → EventNow → Actor → Bool → Kind → Type 0
StepsOf m past now who true k = IsMakerStep m k
StepsOf m past now (actor.Script i) false k = IsScriptStep m past (position_of m past i) (op_of m past i) (slice_get m.actors i) k
StepsOf m past now actor.Auto false k = IsWorkStep m past now (work past) k
StepsOf m past now (actor.Dev d) false k = IsDeviceStep d (async_work m past d) k
StepsOf m past now (actor.Timer s) false k = ⊥
StepsOf m past now actor.Time false k = ⊥

-- each entry is of its actor's own steps, once and in order (kernel/power/main.c, kernel/power/autosleep.c, drivers/base/power/main.c)
abbrev pub KeepsSteps : Machine → List Entry → EventNow → Actor → Kind → Type 0
KeepsSteps m past now who k = StepsOf m past now who (is_maker past who) k

-- ---- among all entries

-- that source owes steps of a call by the actor (wakeup_source_report_event)
abbrev pub is_inside : List Entry → Actor → Bool
is_inside own who = is_left (owed own) && is_actor who (caller own)

-- a step of the word is of a call that its actor is inside, on that source, and is the one that is owed next (wakeup_source_report_event)
abbrev pub IsOfCall : List Entry → Actor → ℕ → WordKind → Type 0
IsOfCall past who s step = (is_inside (history s past) who ≡ true) × IsNext step (owed (history s past))

-- an entry of the journal is its actor's next step, once the calls before it are made; a note is its actor's next call; its actor owes a
-- step of the word; time makes the jumps (own)
abbrev pub StepsEntry : Machine → List Entry → Entry → EntryClass → Type 0
StepsEntry m past e OfJournal =
    KeepsSteps m (journal past) (numbers past) e.actor e.kind × IsOwnTurn m (journal past) (λ s. history s past) e.actor
    × IsOutside m (λ s. history s past) e.actor
StepsEntry m past e (Notes s call) =
    IsOwnCall m (journal past) (λ t. history t past) e.actor e.kind × IsOutside m (λ t. history t past) e.actor
StepsEntry m past e (Moves s step) = IsOfCall past e.actor s step
StepsEntry m past e OfTime = e.actor ≡ actor.Time
