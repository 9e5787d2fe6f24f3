-- What several rules ask: the position of a script, who makes the open attempt, which row of its table is under way.
use Rattle.std.specs.Prelude.{ℕ, Bool, true, List, length, Option, Some, None, is_some, slice_get}
use Rattle.sleep_model.specs.declared.entry.Actor.{Actor}
use Rattle.sleep_model.specs.declared.entry.Entry.{Entry}
use Rattle.sleep_model.specs.declared.entry.Kind.{Kind}
use Rattle.sleep_model.specs.declared.machine.Machine.{Machine}
use Rattle.sleep_model.specs.declared.machine.Op.{Op}
use Rattle.sleep_model.specs.declared.progress.ScriptPosition.{ScriptPosition}
use Rattle.sleep_model.specs.declared.progress.Stage.{Stage}
use Rattle.sleep_model.specs.declared.progress.Stage.TheVariants as stage
use Rattle.sleep_model.specs.declared.word.EventNow.{EventNow}
use Rattle.phase_table.specs.declared.phase.Phase.{Phase}
use Rattle.sleep_model.specs.Devices.{phase_failed, taken, unless_failed}
use Rattle.sleep_model.specs.Laws.{steps_of}
use Rattle.sleep_model.specs.Notifiers.{next_notified, next_post_notified, next_cpu_off, next_cpu_on, next_syscore_suspended, next_syscore_resumed}
use Rattle.sleep_model.specs.Path.{maker, is_actor}
use Rattle.sleep_model.specs.Positions.{positions, position_at}
use Rattle.sleep_model.specs.Table.{stage_of, next_stage, by_case}

-- the position of script i (own)
abbrev pub position_of : Machine → List Entry → ℕ → ScriptPosition
position_of m past i = position_at (positions (length m.actors) past) i

-- the operation of script i that is under way, if one is left (own)
abbrev pub op_of : Machine → List Entry → ℕ → Option Op
op_of m past i = slice_get (steps_of (slice_get m.actors i)) (position_of m past i).done

-- the actor makes the open attempt (system_transition_mutex)
abbrev pub is_maker : List Entry → Actor → Bool
is_maker past who = is_actor who (maker past)

-- a row of the table has an entry left (suspend_enter)
abbrev pub has_more : Machine → List Entry → Stage → Bool
has_more m past stage.Notifies = is_some (next_notified m past)
has_more m past stage.StopsCpus = is_some (next_cpu_off m past)
has_more m past stage.StopsSyscore = is_some (next_syscore_suspended m past)
has_more m past stage.StartsSyscore = is_some (next_syscore_resumed m past)
has_more m past stage.StartsCpus = is_some (next_cpu_on m past)
has_more m past stage.NotifiesPost = is_some (next_post_notified m past)
has_more m past _ = true

-- the row that is under way, unless it has nothing left: then the row that follows it (suspend_enter)
abbrev pub row_at : Machine → List Entry → Option Stage → Option Stage
row_at m past None = None
row_at m past (Some here) = Some (by_case (has_more m past here) here (next_stage here))

-- the row of the open attempt's next entry (suspend_enter)
abbrev pub row_now : Machine → List Entry → Option Stage
row_now m past = row_at m past (stage_of past)

-- what a device does at its turn: an error lets an asynchronous one do nothing, a wakeup or direct-complete passes it over, else its
-- callback begins (__device_suspend)
abbrev pub turn_of : Machine → List Entry → EventNow → Phase → ℕ → Kind
turn_of m past now p d = unless_failed (phase_failed past) p d (taken m past now p d)
