-- How many entries a log has at most (own: Linux keeps no log).
use Rattle.std.specs.Prelude.{◌≤◌, ℕ, zero, suc, ◌+◌, ◌*◌, min, List, [], ◌∷◌, length}
use Rattle.sleep_model.specs.declared.entry.Entry.{Entry}
use Rattle.sleep_model.specs.declared.entry.Kind.{Kind}
use Rattle.sleep_model.specs.declared.entry.Kind.TheVariants.{Jump}
use Rattle.sleep_model.specs.declared.machine.Machine.{Machine}
use Rattle.sleep_model.specs.Accepted.{IsAccepted}
use Rattle.sleep_model.specs.Legal.{IsLegal, JournalPart}
use Rattle.sleep_model.specs.Places.{all_operations, most_attempts, places}
use Rattle.sleep_model.specs.Sources.{most_entries}
use Rattle.room_laws.specs.AttemptRoom.{enough}

-- one more, unless it is a jump of time
abbrev pub one_but_jump : Kind → ℕ → ℕ
one_but_jump Jump before = before
one_but_jump _ before = before + 1

-- how many of these entries are no jumps of time
abbrev pub but_jumps : List Entry → ℕ
but_jumps [] = 0
but_jumps (e ∷ past) = one_but_jump e.kind (but_jumps past)

-- the entries of all scripts outside attempts: each operation says once that it waits, or begins, and ends; each script exits (own)
abbrev pub most_steps : Machine → ℕ
most_steps m = 2 * length (all_operations m.actors) + 2 * length m.actors

-- those of a journal but the jumps: those of attempts, a freeze of each task in each of an attempt's two freezes, those of scripts, and
-- eight in a run of the autosleep work (own)
abbrev pub most_of_journal : Machine → ℕ
most_of_journal m =
    most_attempts m * enough m + (2 * most_attempts m * length m.actors + (most_steps m + 8 * m.auto_cycles))

-- those of the first n sources: no history has more than its calls have room for, nor than it has (own)
abbrev pub most_of_sources : Machine → ℕ → ℕ
most_of_sources m zero = 0
most_of_sources m (suc n) = min (places m n) most_entries + most_of_sources m n

-- those of a log: no two jumps without another entry between them (own)
abbrev pub most : Machine → ℕ
most m = 2 * (most_of_journal m + most_of_sources m (length m.sources + 1)) + 1

-- ---- the laws

-- a legal journal of an accepted machine has no more entries than that, but for the jumps
abbrev pub JournalsAreBounded : Type 0
JournalsAreBounded =
    (m : Machine) → IsAccepted m → (past : List Entry) → JournalPart m past → but_jumps past ≤ most_of_journal m

-- a legal list of entries of an accepted machine has no more than that
abbrev pub LogsAreBounded : Type 0
LogsAreBounded = (m : Machine) → IsAccepted m → (past : List Entry) → IsLegal m past → length past ≤ most m

-- and whatever the accepted machine, no more than that number
abbrev pub AllLogsAreBounded : Type 0
AllLogsAreBounded = (m : Machine) → IsAccepted m → (past : List Entry) → IsLegal m past → length past ≤ 37585025
