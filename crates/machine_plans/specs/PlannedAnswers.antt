-- The answers of callbacks, by thing and attempt (own: the kernel asks the callback).
use Rattle.std.specs.Prelude.{ℕ, List, Option, Some, None}
use Rattle.sleep_model.specs.declared.machine.Answer.{Answer}
use Rattle.sleep_model.specs.declared.machine.What.{What}
use Rattle.sleep_model.specs.Answers.{answer_for, own_or}

-- the answer of a thing in attempt n, among these: its own for the attempt, else the one for any (own)
abbrev pub answer_among : List Answer → What → ℕ → Option Answer
answer_among answers what n = own_or (answer_for what (Some n) answers) (answer_for what None answers)
