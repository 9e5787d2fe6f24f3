-- The numbers at a point of a log, from the entries before it, the newest first.
use Rattle.std.specs.Prelude.{ℕ, ◌+◌, ◌-◌, List, [], ◌∷◌, Option, Some, None}
use Rattle.sleep_model.specs.declared.word.EventNow.{EventNow}
use Rattle.sleep_model.specs.declared.word.WordKind as word
use Rattle.sleep_model.specs.declared.word.WordKind.TheVariants as step
use Rattle.sleep_model.specs.declared.entry.Entry.{Entry}
use Rattle.sleep_model.specs.declared.entry.Kind.{Kind}
use Rattle.sleep_model.specs.declared.entry.Kind.TheVariants.{Start, Finish, Hard, Jump}

-- the step that an entry makes on the word (wakeup_source_activate, wakeup_source_deactivate)
abbrev pub word_step : Kind → Option word.WordKind
word_step (Start s) = Some step.Start
word_step (Finish s) = Some step.Finish
word_step (Hard s) = Some step.Hard
word_step _ = None

-- the word after a step: a start begins an event, a finish registers it, a hard step counts a hard one (wakeup_source_activate,
-- wakeup_source_deactivate)
abbrev pub after_step : Option word.WordKind → EventNow → EventNow
after_step None now = now
after_step (Some step.Start) now = record now { inpr = now.inpr + 1 }
after_step (Some step.Finish) now = record now { inpr = now.inpr - 1; count = now.count + 1 }
after_step (Some step.Hard) now = record now { hard = now.hard + 1 }

-- starts less finishes, finishes, and hard steps so far (drivers/base/power/wakeup.c, combined_event_count)
abbrev pub numbers : List Entry → EventNow
numbers [] = record { inpr = 0; count = 0; hard = 0 }
numbers (e ∷ past) = after_step (word_step e.kind) (numbers past)

-- the time that an entry sets (own)
abbrev pub time_after : Kind → ℕ → ℕ → ℕ
time_after Jump at before = at
time_after _ at before = before

-- the moment of the latest jump, 0 before any, in ms (own: one virtual clock)
abbrev pub time_of : List Entry → ℕ
time_of [] = 0
time_of (e ∷ past) = time_after e.kind e.time (time_of past)
