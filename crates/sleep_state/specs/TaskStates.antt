-- The tasks as one value, and what an entry does to them.
use Rattle.std.specs.Prelude.{ℕ, ◌<◌, ◌+◌, ◌^◌, List, replicate}
use Rattle.sleep_model.specs.declared.entry.Actor.{Actor}
use Rattle.sleep_model.specs.declared.entry.Actor.TheVariants as actor
use Rattle.sleep_model.specs.declared.entry.Kind.{Kind}
use Rattle.sleep_model.specs.declared.entry.Kind.TheVariants as kind
use Rattle.sleep_model.specs.declared.progress.ScriptPosition.{ScriptPosition}
use Rattle.sleep_model.specs.Marks.{mark_at, marks_after}
use Rattle.sleep_model.specs.Positions.{first_position, position_at, position_effect, positions_after}

-- the position of each script, and each mark's number
pub record TaskState : Type 0 where
  pub positions : List ScriptPosition
  pub marks : List ℕ

-- a number of scripts at their first steps, and one of marks that are not raised
abbrev pub first_tasks : ℕ → ℕ → TaskState
first_tasks scripts marks = record { positions = replicate scripts first_position; marks = replicate marks 0 }

-- a script has made few steps and turns
pub record IsSmallPosition (s : ScriptPosition) : Type 0 where
  pub done : s.done < 2 ^ 63
  pub turns : s.turns < 2 ^ 63

-- the script whose entry it is has made few
abbrev pub PositionIsSmall : Actor → List ScriptPosition → Type 0
PositionIsSmall (actor.Script i) positions = IsSmallPosition (position_at positions i)
PositionIsSmall _ positions = Unit {0}

-- a mark that is raised stays in the range of its number
abbrev pub MarksAreSmall : Kind → List ℕ → Type 0
MarksAreSmall (kind.Post mark) marks = mark_at marks mark + 1 < 2 ^ 32
MarksAreSmall _ marks = Unit {0}

-- what an entry of that actor does to the tasks (own)
abbrev pub tasks_after : Actor → Kind → TaskState → TaskState
tasks_after who kind before = record {
  positions = positions_after who (position_effect kind) before.positions;
  marks = marks_after kind before.marks;
}
