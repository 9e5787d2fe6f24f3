-- Scripts of which nothing is due while all is quiet.
use Rattle.std.specs.Prelude.{ℕ, zero, suc, ◌+◌, ◌&&◌, ◌||◌, Bool, true, false, not, List, length, Option, Some, is_none, nat_lt}
use Rattle.sleep_model.specs.declared.entry.Entry.{Entry}
use Rattle.sleep_model.specs.declared.machine.Machine.{Machine}
use Rattle.sleep_model.specs.declared.machine.Op.{Op}
use Rattle.sleep_model.specs.declared.machine.Op.TheVariants as op
use Rattle.sleep_model.specs.declared.progress.ScriptPosition.{ScriptPosition}
use Rattle.sleep_model.specs.Calls.{is_left}
use Rattle.sleep_model.specs.Freezer.{freezing}
use Rattle.sleep_model.specs.Numbers.{time_of}
use Rattle.sleep_model.specs.Path.{maker}
use Rattle.rule_definitions.specs.Questions.{op_of, position_of}
use Rattle.sleep_model.specs.Sources.{owed}

-- none of the first n sources, whose histories these are, is owed steps of a call (wakeup_source_report_event)
abbrev pub none_owes : ℕ → (ℕ → List Entry) → Bool
none_owes zero of = true
none_owes (suc n) of = not (is_left (owed (of n))) && none_owes n of

-- nobody makes an attempt, and nobody is inside a call on a source (own)
abbrev pub is_quiet : Machine → List Entry → (ℕ → List Entry) → Bool
is_quiet m past of = is_none (maker past) && none_owes (length m.sources + 1) of

-- the operation is a sleep that has begun and is not over (schedule_timeout)
abbrev pub sleeps_on : Option Op → Bool → Option ℕ → ℕ → Bool
sleeps_on (Some (op.Sleep ms)) waits (Some until) time = waits && nat_lt time until
sleeps_on (Some (op.SleepD ms)) waits (Some until) time = waits && nat_lt time until
sleeps_on _ waits until time = false

-- a script in that position at its operation sleeps on, or has exited (do_exit)
abbrev pub stays : ScriptPosition → Option Op → ℕ → Bool
stays position op time = position.exited || sleeps_on op position.waits position.until time

-- script i is not asked to freeze, and sleeps on or has exited (own)
abbrev pub is_idle_script : Machine → List Entry → ℕ → Bool
is_idle_script m past i = not (freezing m i past).asked && stays (position_of m past i) (op_of m past i) (time_of past)
