-- What is due of an actor at a point of the log, given the word that it sees: at most one entry is legal there.
use Rattle.std.specs.Prelude.{ℕ, Bool, ◌&&◌, List, length, if◌then◌else◌, is_none, slice_get}
use Rattle.sleep_model.specs.declared.word.EventNow.{EventNow}
use Rattle.sleep_model.specs.declared.entry.Actor.{Actor}
use Rattle.sleep_model.specs.declared.entry.Actor.TheVariants as actor
use Rattle.sleep_model.specs.declared.entry.Entry.{Entry}
use Rattle.sleep_model.specs.declared.machine.Machine.{Machine}
use Rattle.sleep_model.specs.declared.progress.Due.{Due}
use Rattle.sleep_model.specs.declared.progress.Due.TheVariants.{Nothing}
use Rattle.sleep_model.specs.Attempt.{attempt_due, sleeps_now}
use Rattle.sleep_model.specs.Autosleep.{auto_due}
use Rattle.sleep_model.specs.Devices.{device_due, async_work}
use Rattle.sleep_model.specs.Freezer.{freezing}
use Rattle.sleep_model.specs.Path.{maker, is_actor}
use Rattle.sleep_model.specs.Positions.{positions, position_at, all_exited}
use Rattle.sleep_model.specs.Steps.{position_due}

-- script i at its own steps (own)
abbrev pub script_due : Machine → List Entry → EventNow → ℕ → Due
script_due m past now i =
    position_due m past now (freezing m i past) (slice_get m.actors i) (position_at (positions (length m.actors) past) i)

-- every script has made its exit (do_exit)
abbrev pub have_all_exited : Machine → List Entry → Bool
have_all_exited m past = all_exited (positions (length m.actors) past)

-- every script has made its exit, and no attempt is open (own)
abbrev pub is_over : Machine → List Entry → Bool
is_over m past = have_all_exited m past && is_none (maker past)

-- an actor that makes no attempt: a script by its steps, autosleep's work, an asynchronous device; timers make only source calls
abbrev pub own_due : Machine → List Entry → Actor → EventNow → Due
own_due m past (actor.Script i) now = script_due m past now i
own_due m past actor.Auto now = auto_due m past now (sleeps_now past) (is_over m past)
own_due m past (actor.Dev d) now = device_due m past now d (async_work m past d)
own_due m past (actor.Timer s) now = Nothing
own_due m past actor.Time now = Nothing

-- what is due of an actor that sees this word: the maker of the open attempt follows the table
abbrev pub due : Machine → List Entry → Actor → EventNow → Due
due m past who now = if is_actor who (maker past) then attempt_due m past now else own_due m past who now
