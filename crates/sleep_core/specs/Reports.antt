-- How many calls on sources the callbacks of each actor have reported.
use Rattle.std.specs.Prelude.{ℕ, ◌+◌, List, [], ◌∷◌, length, replicate, slice_index, slice_set}
use Rattle.sleep_model.specs.declared.entry.Actor.{Actor}
use Rattle.sleep_model.specs.declared.entry.Actor.TheVariants as actor
use Rattle.sleep_model.specs.declared.entry.Entry.{Entry}
use Rattle.sleep_model.specs.declared.machine.Machine.{Machine}
use Rattle.sleep_model.specs.Calls.{report_calls}
use Rattle.sleep_model.specs.Path.{attempts}

-- the number of each script, of the autosleep work, and of each device
pub record ReportCounts : Type 0 where
  pub scripts : List ℕ
  pub auto : ℕ
  pub devices : List ℕ

-- a number of scripts and one of devices, whose callbacks have reported nothing
abbrev pub none_reported : ℕ → ℕ → ReportCounts
none_reported scripts devices = record { scripts = replicate scripts 0; auto = 0; devices = replicate devices 0 }

-- that number of an actor
abbrev pub reported_by : Actor → ReportCounts → ℕ
reported_by (actor.Script i) counts = slice_index counts.scripts i
reported_by actor.Auto counts = counts.auto
reported_by (actor.Dev d) counts = slice_index counts.devices d
reported_by _ counts = 0

-- the number at an index grows by that much
abbrev pub grown_at : List ℕ → ℕ → ℕ → List ℕ
grown_at numbers at more = slice_set numbers at (slice_index numbers at + more)

-- the numbers after n more reports of an actor's callback
abbrev pub counts_after : Actor → ℕ → ReportCounts → ReportCounts
counts_after (actor.Script i) more before = record before { scripts = grown_at before.scripts i more }
counts_after actor.Auto more before = record before { auto = before.auto + more }
counts_after (actor.Dev d) more before = record before { devices = grown_at before.devices d more }
counts_after _ more before = before

-- the numbers of a machine's actors, from its journal
abbrev pub counts_of : Machine → List Entry → ReportCounts
counts_of m [] = none_reported (length m.actors) (length m.devices)
counts_of m (e ∷ past) = counts_after e.actor (length (report_calls m (attempts past) e.kind)) (counts_of m past)
