-- The autosleep work (kernel/power/autosleep.c, try_to_suspend).
use Rattle.std.specs.Prelude.{ℕ, ◌+◌, Bool, true, false, ◌==◌, ◌&&◌, ◌||◌, nat_lt, nat_le, List, [], ◌∷◌, if◌then◌else◌, Option, Some, None, is_none}
use Rattle.sleep_model.specs.declared.word.EventNow.{EventNow}
use Rattle.sleep_model.specs.declared.entry.Actor.{Actor}
use Rattle.sleep_model.specs.declared.entry.Actor.TheVariants as actor
use Rattle.sleep_model.specs.declared.entry.Entry.{Entry}
use Rattle.sleep_model.specs.declared.entry.Kind.{Kind}
use Rattle.sleep_model.specs.declared.entry.Kind.TheVariants as kind
use Rattle.sleep_model.specs.declared.log.Why.TheVariants as why
use Rattle.sleep_model.specs.declared.machine.Machine.{Machine}
use Rattle.sleep_model.specs.declared.progress.Due.{Due}
pub use Rattle.sleep_model.specs.declared.progress.Work.{Work}
pub use Rattle.sleep_model.specs.declared.progress.Work.TheVariants.{Resting, Reading, Saving, Attempting, Looking, Napping, Closing}
use Rattle.sleep_model.specs.declared.progress.Due.TheVariants.{Makes, Waits}
use Rattle.sleep_model.specs.Guard.{in_force}
use Rattle.sleep_model.specs.Lock.{holder, is_on}
use Rattle.sleep_model.specs.Numbers.{time_of}
use Rattle.sleep_model.specs.Path.{attempts}
use Rattle.sleep_model.specs.Word.{visible}

-- after an attempt the work looks at the count that it saved (try_to_suspend)
abbrev pub looks_at : Work → Work
looks_at (Attempting c) = Looking c
looks_at before = before

-- if nothing was registered meanwhile the work naps, that it may not run all the time (try_to_suspend, schedule_timeout_uninterruptible)
abbrev pub naps_at : ℕ → Work → Work
naps_at seen (Looking c) = if seen == c then Napping None else Closing
naps_at seen before = before

-- events that are in progress let the work end without a nap (try_to_suspend)
abbrev pub after_look : Option ℕ → Work → Work
after_look None before = Closing
after_look (Some seen) before = naps_at seen before

-- the state of the work after an entry of its own (try_to_suspend)
abbrev pub work_step : Kind → Work → Work
work_step kind.AutoRun before = Reading
work_step (kind.Read c) before = Saving c
work_step (kind.AutoSaved c) before = Attempting c
work_step (kind.AutoUnsaved c) before = Closing
work_step (kind.Over n r) before = looks_at before
work_step (kind.AutoAfter seen) before = after_look seen before
work_step (kind.SleepD until) before = Napping (Some until)
work_step kind.Slept before = Closing
work_step kind.AutoAgain before = Resting
work_step kind.AutoOff before = Resting
work_step _ before = before

-- only its own entries move it (try_to_suspend)
abbrev pub work_after : Actor → Kind → Work → Work
work_after actor.Auto kind before = work_step kind before
work_after _ kind before = before

-- the state of the autosleep work (try_to_suspend)
abbrev pub work : List Entry → Work
work [] = Resting
work (e ∷ past) = work_after e.actor e.kind (work past)

-- the work is queued, after an entry; autosleep is on or not (queue_up_suspend_work)
abbrev pub queued_after : Kind → Bool → Bool → Bool
queued_after kind.AutoDone on before = on || before
queued_after kind.AutoAgain on before = true
queued_after kind.AutoRun on before = false
queued_after _ on before = before

-- the work is queued (queue_up_suspend_work)
abbrev pub is_queued : List Entry → Bool
is_queued [] = false
is_queued (e ∷ past) = queued_after e.kind (is_on past) (is_queued past)

-- the number of runs, after an entry (own)
abbrev pub runs_after : Kind → ℕ → ℕ
runs_after kind.AutoRun before = before + 1
runs_after _ before = before

-- how often the work has run (own)
abbrev pub runs : List Entry → ℕ
runs [] = 0
runs (e ∷ past) = runs_after e.kind (runs past)

-- the work may run (queue_up_suspend_work; the bound on runs is own)
abbrev pub may_run : Machine → List Entry → Bool
may_run m past = is_queued past && nat_lt (runs past) m.auto_cycles

-- a save of the work's count (pm_save_wakeup_count)
abbrev pub auto_save : EventNow → ℕ → Kind
auto_save now c = if (visible now == c) && (now.inpr == 0) then kind.AutoSaved c else kind.AutoUnsaved c

-- the count that is seen if no event is in progress (pm_get_wakeup_count)
abbrev pub seen_count : EventNow → Option ℕ
seen_count now = if now.inpr == 0 then Some (visible now) else None

-- the work's next entry (try_to_suspend)
abbrev pub work_due : Machine → List Entry → EventNow → Work → Due
work_due m past now Resting = if may_run m past then Makes kind.AutoRun else Waits why.NoWork
work_due m past now Reading = if now.inpr == 0 then Makes (kind.Read (visible now)) else Waits why.InProgress
work_due m past now (Saving c) = if is_none (holder past) then Makes (auto_save now c) else Waits why.LockHeld
work_due m past now (Attempting c) =
    if is_on past then Makes (kind.Attempt (attempts past + 1) (in_force past)) else Makes kind.AutoOff
work_due m past now (Looking c) = Makes (kind.AutoAfter (seen_count now))
work_due m past now (Napping None) = Makes (kind.SleepD (time_of past + 500))
work_due m past now (Napping (Some until)) =
    if nat_le until (time_of past) then Makes kind.Slept else Waits (why.Until until)
work_due m past now Closing = if is_on past then Makes kind.AutoAgain else Makes kind.AutoOff

-- the work outside its own attempts: nothing while the machine sleeps, and nothing once all tasks have exited and no attempt is open
-- (try_to_suspend; its end is own)
abbrev pub auto_due : Machine → List Entry → EventNow → Bool → Bool → Due
auto_due m past now asleep over =
    if asleep then Waits why.Asleep else if over then Waits why.NoWork else work_due m past now (work past)

-- until when the work naps, if it does (schedule_timeout_uninterruptible)
abbrev pub naps_until : Work → Option ℕ
naps_until (Napping until) = until
naps_until _ = None
