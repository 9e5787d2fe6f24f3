-- What a task of a burst does, act by act.
use Rattle.std.specs.Prelude.{◌≡◌, ◌<◌, ℕ, true, List, [], ◌∷◌, ◌++◌}
use Rattle.sleep_model.specs.declared.entry.Actor.{Actor}
use Rattle.sleep_model.specs.declared.entry.Actor.TheVariants as actor
use Rattle.sleep_model.specs.declared.entry.Kind.{Kind}
use Rattle.sleep_model.specs.declared.log.Want.{Want}
use Rattle.sleep_model.specs.declared.log.Want.TheVariants as want
use Rattle.sleep_model.specs.declared.machine.SourceCall.{SourceCall}
use Rattle.sleep_model.specs.declared.machine.SourceCall.TheVariants as calls
use Rattle.sleep_model.specs.declared.word.Stamp.{Stamp}
use Rattle.sleep_model.specs.Calls.{note}
use Rattle.sleep_script.specs.Jobs.{IsWanted, JobState, TimerState, after_call, after_expiry, after_turn}
use Rattle.room_laws.specs.Ranged.{is_ranged}
use Rattle.turn_lock.specs.declared.view.Made.{Made}
use Rattle.run_laws.specs.Passes.{Noted}
use Rattle.run_world.specs.Outcomes.{IsReport, IsTurn}
use Rattle.run_world.specs.declared.task.Task.{Task}
use Rattle.run_world.specs.declared.task.Task.TheVariants as task

-- whose task it is
abbrev pub actor_of : Task → Actor
actor_of (task.Acts job) = job.who
actor_of (task.Fires timer) = actor.Timer timer.source

-- the stamp that it last knew
abbrev pub known_by : Task → Stamp
known_by (task.Acts job) = job.floor
known_by (task.Fires timer) = timer.floor

-- how many calls on sources it has made (own)
abbrev pub calls_by : Task → ℕ
calls_by (task.Acts job) = job.calls
calls_by (task.Fires timer) = timer.calls

-- what it does next: a timer's call is the expiry (pm_wakeup_timer_fn)
abbrev pub Wants : Task → Want → Type 0
Wants (task.Acts job) w = IsWanted job w
Wants (task.Fires timer) w = w ≡ want.Source timer.source calls.Expire

-- an act in a world of n sources, at that moment, which adds these entries: nothing; the turn of the machine, or the call on a source, that
-- a job wants and then notes; or an expiry (pm_wakeup_timer_fn)
pub data Does (sources moment : ℕ) : Task → List (Made Noted) → Task → Type 0 where
  Nothing : (t : Task) → Does sources moment t [] t
  Turns : (job : JobState) (stamp : Stamp) (k : Kind) (attempt : ℕ) (gains : List (Made Noted))
      → IsWanted job want.Core → is_ranged k ≡ true → IsTurn job.machine job.who job.calls job.floor stamp k attempt gains
      → Does sources moment (task.Acts job) gains (task.Acts (after_turn stamp k attempt job))
  Calls : (job : JobState) (s : ℕ) (call : SourceCall) (stamp : Stamp) (gains : List (Made Noted))
      → s < sources → IsWanted job (want.Source s call) → is_ranged (note s call) ≡ true
      → IsReport (record { actor = job.who; floor = job.floor; now = moment }) call s stamp gains
      → Does sources moment (task.Acts job) gains (task.Acts (after_call stamp job))
  Expires : (timer : TimerState) (stamp : Stamp) (gains : List (Made Noted)) → timer.source < sources
      → IsReport (record { actor = actor.Timer timer.source; floor = timer.floor; now = moment }) calls.Expire timer.source stamp gains
      → Does sources moment (task.Fires timer) gains (task.Fires (after_expiry stamp timer))

-- acts one after another, the newest first, bring a task on
abbrev pub Plays : ℕ → ℕ → Task → List (List (Made Noted)) → Task → Type 0
Plays sources moment first [] last = last ≡ first
Plays sources moment first (gains ∷ acts) last = (t : Task) × Plays sources moment first acts t × Does sources moment t gains last

-- what acts add, the newest act first
abbrev pub all_gains : List (List (Made Noted)) → List (Made Noted)
all_gains [] = []
all_gains (gains ∷ acts) = all_gains acts ++ gains
