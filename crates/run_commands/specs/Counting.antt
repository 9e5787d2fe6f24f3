-- What a log comes to: how many entries it has, and what became of its attempts.
use Rattle.std.specs.Prelude.{ℕ, ◌+◌, ◌-◌, ◌++◌, Bool, true, false, not, List, [], ◌∷◌, length, codes}
use Rattle.sleep_model.specs.declared.entry.Entry.{Entry}
use Rattle.sleep_model.specs.declared.entry.Kind.{Kind}
use Rattle.sleep_model.specs.declared.entry.Kind.TheVariants.{Attempt, Enter}
use Rattle.sleep_model.specs.declared.log.Log.{Log}
use Rattle.sleep_model.specs.Places.{one_if}
use Rattle.sleep_model.specs.Text.{newline}
use Rattle.program_ending.specs.Texts.{with_number}
use Rattle.run_commands.specs.declared.counts.LogCounts.{LogCounts}

-- an attempt begins (enter_state)
abbrev pub begins_attempt : Kind → Bool
begins_attempt (Attempt n guarded) = true
begins_attempt _ = false

-- the machine enters sleep: the test before it found nothing (suspend_enter)
abbrev pub begins_sleep : Kind → Bool
begins_sleep (Enter busy) = not busy
begins_sleep _ = false

-- how many attempts begin in these entries
abbrev pub attempts_in : List Entry → ℕ
attempts_in [] = 0
attempts_in (e ∷ rest) = one_if (begins_attempt e.kind) + attempts_in rest

-- how often the machine enters sleep in them
abbrev pub entered_in : List Entry → ℕ
entered_in [] = 0
entered_in (e ∷ rest) = one_if (begins_sleep e.kind) + entered_in rest

-- the numbers of a log: its entries, the attempts, those that entered, and the others
abbrev pub counts_of : Log → LogCounts
counts_of log = record {
  entries = length log.entries;
  attempts = attempts_in log.entries;
  entered = entered_in log.entries;
  aborted = attempts_in log.entries - entered_in log.entries;
}

-- how the line ends: with how the run ended
abbrev pub line_end : Bool → List ℕ
line_end false = codes " finished" ++ newline
line_end true = codes " stuck" ++ newline

-- the line of a log's numbers, and of how the run ended
abbrev pub count_line : LogCounts → Bool → List ℕ
count_line c stuck =
    with_number (codes "entries ") c.entries ++ with_number (codes " attempts ") c.attempts ++ with_number (codes " entered ") c.entered
    ++ with_number (codes " aborted ") c.aborted ++ line_end stuck
