-- Autosleep as one value, and what an entry does to it.
use Rattle.std.specs.Prelude.{ℕ, ◌+◌, Bool, false, ◌==◌, ◌&&◌, nat_lt, nat_le, if◌then◌else◌, Option, Some, None}
use Rattle.sleep_model.specs.declared.entry.Actor.{Actor}
use Rattle.sleep_model.specs.declared.entry.Kind.{Kind}
use Rattle.sleep_model.specs.declared.entry.Kind.TheVariants as kind
use Rattle.sleep_model.specs.declared.log.Why.TheVariants as why
use Rattle.sleep_model.specs.declared.progress.Due.{Due}
use Rattle.sleep_model.specs.declared.progress.Due.TheVariants.{Makes, Waits}
use Rattle.sleep_model.specs.declared.progress.Work.{Work}
use Rattle.sleep_model.specs.declared.progress.Work.TheVariants.{Resting, Reading, Saving, Attempting, Looking, Napping, Closing}
use Rattle.sleep_model.specs.declared.word.EventNow.{EventNow}
use Rattle.sleep_model.specs.Autosleep.{work_after, queued_after, runs_after, auto_save, seen_count}
use Rattle.sleep_model.specs.Lock.{holder_after, on_after}
use Rattle.sleep_model.specs.Word.{visible}

-- the autosleep lock, its setting, and the work (kernel/power/autosleep.c)
pub record AutosleepState : Type 0 where
  pub holder : Option Actor
  pub on : Bool
  pub work : Work
  pub queued : Bool
  pub runs : ℕ

-- nobody holds the lock, autosleep is off, and the work is idle
abbrev pub idle_work : AutosleepState
idle_work = record { holder = None; on = false; work = Resting; queued = false; runs = 0 }

-- what an entry of that actor does (pm_autosleep_set_state, try_to_suspend)
abbrev pub autosleep_after : Kind → Actor → AutosleepState → AutosleepState
autosleep_after kind who before = record {
  holder = holder_after kind who before.holder;
  on = on_after kind before.on;
  work = work_after who kind before.work;
  queued = queued_after kind before.on before.queued;
  runs = runs_after kind before.runs;
}

-- ---- what the work makes next

-- a save of that count, for which the lock has to be free (pm_save_wakeup_count)
abbrev pub saving_due : EventNow → ℕ → Option Actor → Due
saving_due now c None = Makes (auto_save now c)
saving_due now c (Some who) = Waits why.LockHeld

-- a nap up to that moment, once it has begun (schedule_timeout_uninterruptible)
abbrev pub nap_due : Option ℕ → ℕ → Due
nap_due None time = Makes (kind.SleepD (time + 500))
nap_due (Some until) time = if nat_le until time then Makes kind.Slept else Waits (why.Until until)

-- the work's next entry in that state; it may run so often, and its attempt begins with that entry (try_to_suspend)
abbrev pub turn_at : Work → ℕ → EventNow → ℕ → Kind → AutosleepState → Due
turn_at Resting cycles now time attempt a = if a.queued && nat_lt a.runs cycles then Makes kind.AutoRun else Waits why.NoWork
turn_at Reading cycles now time attempt a = if now.inpr == 0 then Makes (kind.Read (visible now)) else Waits why.InProgress
turn_at (Saving c) cycles now time attempt a = saving_due now c a.holder
turn_at (Attempting c) cycles now time attempt a = Makes (if a.on then attempt else kind.AutoOff)
turn_at (Looking c) cycles now time attempt a = Makes (kind.AutoAfter (seen_count now))
turn_at (Napping until) cycles now time attempt a = nap_due until time
turn_at Closing cycles now time attempt a = Makes (if a.on then kind.AutoAgain else kind.AutoOff)

-- the work's next entry (try_to_suspend)
abbrev pub turn_due : ℕ → EventNow → ℕ → Kind → AutosleepState → Due
turn_due cycles now time attempt a = turn_at a.work cycles now time attempt a
