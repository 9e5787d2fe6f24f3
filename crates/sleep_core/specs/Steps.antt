-- Words for what a task makes.
use Rattle.std.specs.Prelude.{◌≡◌, ◌+◌, ℕ, Bool, true, false, not, ◌&&◌, List, [], ◌∷◌, length, slice_get, Option, Some, None}
use Rattle.sleep_model.specs.declared.entry.Actor.TheVariants as actor
use Rattle.sleep_model.specs.declared.entry.Entry.{Entry}
use Rattle.sleep_model.specs.declared.entry.FrozeEnd.{FrozeEnd}
use Rattle.sleep_model.specs.declared.entry.FrozeEnd.TheVariants as froze
use Rattle.sleep_model.specs.declared.entry.Kind.{Kind}
use Rattle.sleep_model.specs.declared.entry.Kind.TheVariants as kind
use Rattle.sleep_model.specs.declared.machine.Op.{Op}
use Rattle.sleep_model.specs.declared.machine.Op.TheVariants as op
use Rattle.sleep_model.specs.declared.machine.Script.{Script}
use Rattle.sleep_model.specs.declared.machine.TaskKind.{TaskKind}
use Rattle.sleep_model.specs.declared.machine.Machine.{Machine}
use Rattle.sleep_model.specs.declared.progress.Freezing.{Freezing}
use Rattle.sleep_model.specs.declared.progress.ScriptPosition.{ScriptPosition}
use Rattle.sleep_model.specs.declared.word.EventNow.{EventNow}
use Rattle.sleep_model.specs.Attempt.{sleeps_now}
use Rattle.sleep_model.specs.Due.{script_due}
use Rattle.sleep_model.specs.Freezer.{freezing}
use Rattle.sleep_model.specs.Legal.{is_made, pending_sleep}
use Rattle.sleep_model.specs.Positions.{positions, position_at}
use Rattle.sleep_model.specs.Guard.{in_force}
use Rattle.sleep_model.specs.Path.{attempts, is_actor, maker}
use Rattle.sleep_model.specs.Scripts.{entry_steps}

-- the entry that begins the next attempt (pm_suspend)
abbrev pub next_attempt : List Entry → Kind
next_attempt past = kind.Attempt (attempts past + 1) (in_force past)

-- how a freeze ends that waits for these tasks, if a wakeup breaks it off (try_to_freeze_tasks)
abbrev pub woken_end : List ℕ → FrozeEnd
woken_end [] = froze.AllFrozen
woken_end (x ∷ rest) = froze.Wakeup (length (x ∷ rest)) x

-- the kind of that script
abbrev pub IsKindOf : Option Script → TaskKind → Type 0
IsKindOf None k = ⊥
IsKindOf (Some s) k = k ≡ s.kind

-- the end of script i's sleep, if it is pending (own)
abbrev pub sleep_end : Machine → List Entry → ℕ → Option ℕ
sleep_end m past i =
    pending_sleep (sleeps_now past) (freezing m i past) (slice_get m.actors i) (position_at (positions (length m.actors) past) i)

-- at that operation a script sleeps, and may freeze (schedule_timeout)
abbrev pub is_sleep : Option Op → Bool
is_sleep (Some (op.Sleep ms)) = true
is_sleep _ = false

-- a script at that position is at such a sleep, it is not frozen, and no freeze asks it (schedule_timeout, freezing)
abbrev pub is_sleep_at : Freezing → Option Script → ScriptPosition → Bool
is_sleep_at f None position = false
is_sleep_at f (Some s) position =
    not position.exited && (is_sleep (slice_get (entry_steps s) position.done) && (not f.frozen && not f.asked))

-- script i is at such a sleep, and the machine is awake (schedule_timeout)
abbrev pub is_at_sleep : Machine → List Entry → ℕ → Bool
is_at_sleep m past i =
    is_sleep_at (freezing m i past) (slice_get m.actors i) (position_at (positions (length m.actors) past) i)
    && not (sleeps_now past)

-- script i makes no attempt, and begins or ends such a sleep now (schedule_timeout)
abbrev pub is_sleep_due : Machine → List Entry → ℕ → EventNow → Bool
is_sleep_due m past i now =
    not (is_actor (actor.Script i) (maker past)) && (is_at_sleep m past i && is_made (script_due m past now i))
