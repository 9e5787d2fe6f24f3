-- Two passes of two lines, and what breaks them.
use Rattle.std.specs.Prelude.{ℕ, List, [], ◌∷◌}
use Rattle.sleep_model.specs.declared.entry.Actor.{Actor}
use Rattle.sleep_model.specs.declared.entry.Actor.TheVariants as actor
use Rattle.sleep_model.specs.declared.entry.JournalEntry.{JournalEntry}
use Rattle.sleep_model.specs.declared.entry.Kind.TheVariants as kind
use Rattle.turn_lock.specs.declared.view.Made.{Made}
use Rattle.turn_lock.specs.Bookings.{made}
use Rattle.run_laws.specs.Passes.{Noted}
use Rattle.law_trials.specs.BrokenRuns.{stamped}
use Rattle.law_trials.specs.Terms.{entry, word}

-- the exit of a line
abbrev pub exit_of : ℕ → ℕ → JournalEntry
exit_of line tick = stamped 0 tick (entry 0 (word 0 0 0) (actor.Script line) kind.Exit)

-- the first line's exit, before any other entry
abbrev pub first_exit : Noted
first_exit = record { entry = exit_of 0 1; past = [] }

-- the second line's exit, after the first's
abbrev pub second_exit : Noted
second_exit = record { entry = exit_of 1 2; past = exit_of 0 1 ∷ [] }

-- each pass made its line's
abbrev pub two_passes : List (List (Made Noted))
two_passes = (made 0 0 first_exit ∷ []) ∷ (made 0 1 second_exit ∷ []) ∷ []

-- each line has a pass
abbrev pub lines : ℕ → Actor
lines k = actor.Script k

-- both passes are of the first line
abbrev pub one_line : ℕ → Actor
one_line k = actor.Script 0
