-- What a task does next at its operation (kernel/power/main.c, wakeup_count_store, state_store, autosleep_store).
use Rattle.std.specs.Prelude.{ℕ, ◌+◌, Bool, not, ◌==◌, ◌&&◌, ◌||◌, nat_lt, nat_le, List, length, if◌then◌else◌, Option, Some, None, is_some, unwrap_or, slice_get}
use Rattle.sleep_base.specs.declared.errno.Errno.TheVariants.{EINTR, EBUSY, EINVAL}
use Rattle.sleep_model.specs.declared.word.EventNow.{EventNow}
use Rattle.sleep_model.specs.declared.entry.Entry.{Entry}
use Rattle.sleep_model.specs.declared.entry.Kind.{Kind}
use Rattle.sleep_model.specs.declared.entry.Kind.TheVariants as kind
use Rattle.sleep_model.specs.declared.entry.State.TheVariants.{Mem, Off}
use Rattle.sleep_model.specs.declared.machine.Script.{Script}
use Rattle.sleep_model.specs.declared.machine.TaskKind.{TaskKind}
use Rattle.sleep_model.specs.declared.machine.Op.{Op}
use Rattle.sleep_model.specs.declared.machine.Op.TheVariants as op
use Rattle.sleep_model.specs.declared.log.Why.TheVariants as why
use Rattle.sleep_model.specs.declared.machine.Machine.{Machine}
use Rattle.sleep_model.specs.declared.progress.Freezing.{Freezing}
use Rattle.sleep_model.specs.declared.progress.ScriptPosition.{ScriptPosition}
use Rattle.sleep_model.specs.Attempt.{sleeps_now}
use Rattle.sleep_model.specs.declared.progress.Due.{Due}
use Rattle.sleep_model.specs.declared.progress.Due.TheVariants.{Makes, Waits, Nothing}
use Rattle.sleep_model.specs.Word.{visible}
use Rattle.sleep_model.specs.Numbers.{time_of}
use Rattle.sleep_model.specs.Guard.{in_force}
use Rattle.sleep_model.specs.Links.{link_add_due, link_state_due}
use Rattle.sleep_model.specs.Lock.{holder, is_on}
use Rattle.sleep_model.specs.Marks.{mark_at, raised}
use Rattle.sleep_model.specs.Runtime.{runtime_due}
use Rattle.sleep_model.specs.Tasks.{is_mem, is_off, is_line, is_user, freezes_at}
use Rattle.sleep_model.specs.Path.{attempts}
use Rattle.sleep_model.specs.Scripts.{entry_steps}

-- a read answers the count if no event is in progress, else it says once that it waits, and gives up if it is asked to freeze
-- (pm_get_wakeup_count)
abbrev pub read_due : EventNow → Bool → Bool → Due
read_due now waits asked =
    if now.inpr == 0 then Makes (kind.Read (visible now))
    else (if waits then (if asked then Makes kind.ReadIntr else Waits why.InProgress) else Makes kind.ReadWait)

-- a save is ok exactly if its number is the count and no event is in progress (pm_save_wakeup_count)
abbrev pub save_due : EventNow → ℕ → Due
save_due now c = if (visible now == c) && (now.inpr == 0) then Makes (kind.Saved c) else Makes (kind.SaveErr c EINVAL)

-- if another holds the autosleep lock a write says once that it waits, and gives up if it is asked to freeze (pm_autosleep_lock)
abbrev pub lock_due : Bool → Bool → Due → Due → Due
lock_due waits asked says gives_up = if waits then (if asked then gives_up else Waits why.LockHeld) else says

-- a write to wakeup_count (wakeup_count_store)
abbrev pub count_due : Bool → Bool → Bool → Bool → EventNow → ℕ → Due
count_due held on waits asked now c =
    if held then lock_due waits asked (Makes (kind.SaveWait c)) (Makes (kind.SaveErr c EINTR))
    else (if on then Makes (kind.SaveErr c EBUSY) else save_due now c)

-- a write of that text to the state, whose attempt would be that (state_store)
abbrev pub state_due : Bool → Bool → Bool → Bool → Bool → Kind → Due
state_due held on waits asked mem attempt =
    if held then lock_due waits asked (Makes kind.StateWait) (Makes (kind.StateErr EINTR))
    else (if on then Makes (kind.StateErr EBUSY) else (if mem then Makes attempt else Makes (kind.StateErr EINVAL)))

-- a write of that text to autosleep, which waits for the lock and is not interrupted (autosleep_store, pm_autosleep_set_state)
abbrev pub autosleep_due : Bool → Bool → Bool → Bool → Due
autosleep_due held begun mem off =
    if mem || off
    then (if begun then Makes kind.AutoDone
    else (if held then Waits why.LockHeld else Makes (kind.AutoSet (if mem then Mem else Off))))
    else Makes kind.AutoBad

-- a sleep up to that time ends once it has come (schedule_timeout)
abbrev pub slept_due : Option ℕ → ℕ → Due
slept_due None time = Nothing
slept_due (Some until) time = if nat_le until time then Makes kind.Slept else Waits (why.Until until)

-- a wait for a mark of that number (own)
abbrev pub mark_due : ℕ → ℕ → Due
mark_due mark number = if nat_lt 0 number then Makes (kind.Got mark) else Waits (why.Mark mark)

-- a save of a number, or of the last read's, or of 0 (wakeup_count_store)
abbrev pub saved_number : Option ℕ → Option ℕ → ℕ
saved_number None last_read = unwrap_or last_read 0
saved_number (Some c) last_read = c

-- a write to the state whose step is cut short if the last save was not ok (own)
abbrev pub unless_unsaved : Bool → Bool → Due → Due
unless_unsaved if_saved saved due = if if_saved && not saved then Makes kind.StateUnsaved else due

-- a sleep of so long that has begun or not (schedule_timeout)
abbrev pub sleep_due : (ℕ → Kind) → ℕ → ScriptPosition → ℕ → Due
sleep_due begins ms position time = if position.waits then slept_due position.until time else Makes (begins (time + ms))

-- the next entry of a script at an operation, or its exit; a call on a source makes none (kernel/power/main.c, state_store,
-- wakeup_count_store, autosleep_store)
abbrev pub step_due : Machine → List Entry → EventNow → ScriptPosition → Bool → Option Op → Due
step_due m past now position asked None = Makes kind.Exit
step_due m past now position asked (Some op.Read) = read_due now position.waits asked
step_due m past now position asked (Some (op.Save count)) =
    count_due (is_some (holder past)) (is_on past) position.waits asked now (saved_number count position.last_read)
step_due m past now position asked (Some (op.State text if_saved)) =
    unless_unsaved if_saved position.saved
    (state_due (is_some (holder past)) (is_on past) position.waits asked (is_mem text)
    (kind.Attempt (attempts past + 1) (in_force past)))
step_due m past now position asked (Some (op.Autosleep text)) =
    autosleep_due (is_some (holder past)) position.waits (is_mem text) (is_off text)
step_due m past now position asked (Some (op.Sleep ms)) = sleep_due kind.Sleep ms position (time_of past)
step_due m past now position asked (Some (op.SleepD ms)) = sleep_due kind.SleepD ms position (time_of past)
step_due m past now position asked (Some op.FreezePoint) = Makes kind.Pass
step_due m past now position asked (Some (op.Post mark)) = Makes (kind.Post mark)
step_due m past now position asked (Some (op.Wait mark)) = mark_due mark (mark_at (raised (length m.marks) past) mark)
step_due m past now position asked (Some (op.Runtime d to_suspended)) =
    Makes (kind.RuntimeAsk d to_suspended (runtime_due m d to_suspended past))
step_due m past now position asked (Some (op.Link supplier consumer)) =
    Makes (kind.LinkAdd supplier consumer (link_add_due m past supplier consumer))
step_due m past now position asked (Some (op.LinkState supplier consumer active)) =
    Makes (kind.LinkState supplier consumer active (link_state_due m past supplier consumer))
step_due m past now position asked (Some _) = Nothing

-- a frozen task waits, and so does a task while the machine sleeps; one that is asked to freeze does so if it may (try_to_freeze)
abbrev pub task_due : Machine → List Entry → EventNow → Freezing → TaskKind → ScriptPosition → Option Op → Due
task_due m past now f kind' position op =
    if f.frozen then Waits why.Frozen
    else (if sleeps_now past && not (is_line kind') then Waits why.Asleep
    else (if f.asked && freezes_at (is_user kind') position.waits op then Makes kind.Frozen
    else step_due m past now position f.asked op))

-- a script that has exited makes nothing more
abbrev pub position_due : Machine → List Entry → EventNow → Freezing → Option Script → ScriptPosition → Due
position_due m past now f None position = Nothing
position_due m past now f (Some s) position =
    if position.exited then Nothing else task_due m past now f s.kind position (slice_get (entry_steps s) position.done)
