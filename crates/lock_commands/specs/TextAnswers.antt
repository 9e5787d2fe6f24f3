-- The answer to a whole text of lines.
use Rattle.std.specs.Prelude.{◌≡◌, ℕ, ◌+◌, ◌++◌, List, [], ◌∷◌, if◌then◌else◌, Option, Some, None, Result, Ok, Err}
use Rattle.wake_locks.specs.Counted.{AllAgree}
use Rattle.lock_commands.specs.declared.fault.LinesFault.{LinesFault}
use Rattle.lock_commands.specs.declared.fault.LinesFault.TheVariants.{Line}
use Rattle.lock_commands.specs.Answers.{source_lines}
use Rattle.lock_commands.specs.Lines.{lines}
use Rattle.lock_commands.specs.Steps.{LinesState, carried_all, first_state}
use Rattle.lock_commands.specs.Verbs.{is_line}

-- the number of the first line of no form, if the first of these has that number
abbrev pub first_bad : ℕ → List (List ℕ) → Option ℕ
first_bad n [] = None
first_bad n (line ∷ rest) = if is_line line then first_bad (n + 1) rest else Some n

-- the whole text so far, and then a line for the source of each lock
abbrev pub ended : Result LinesState LinesFault → Result (List ℕ) LinesFault
ended (Ok state) = Ok (state.shown_text ++ source_lines state.now state.locks)
ended (Err why) = Err why

-- the answer to these lines, of which that one is the first of no form
abbrev pub answered : Option ℕ → List (List ℕ) → Result (List ℕ) LinesFault
answered (Some n) these = Err (Line n)
answered None these = ended (carried_all these first_state)

-- the answer to a text: all forms are tried before the first line is carried out
abbrev pub text_answer : List ℕ → Result (List ℕ) LinesFault
text_answer bytes = answered (first_bad 1 (lines bytes)) (lines bytes)

-- after all these lines each known lock is as its source's entries say: active exactly if an event is in progress, and until when that ends
-- (wakeup_source_activate, wakeup_source_deactivate)
abbrev pub AgreeAfter : List ℕ → Type 0
AgreeAfter bytes = (state : LinesState) → carried_all (lines bytes) first_state ≡ Ok state → AllAgree state.locks
