-- How a text is cut into lines, and a line at its first space.
use Rattle.std.specs.Prelude.{ℕ, ◌==◌, List, [], ◌∷◌, if◌then◌else◌}
use Rattle.std.specs.List.{onto_first}
use Rattle.sleep_base.specs.Cutting.{before, after_first}

-- the lines of a text: a newline ends each, and may be missing at the end (own)
abbrev pub lines : List ℕ → List (List ℕ)
lines [] = []
lines (b ∷ bytes) = if b == 10 then [] ∷ lines bytes else onto_first b (lines bytes)

-- what comes before the first space
abbrev pub word : List ℕ → List ℕ
word line = before 32 line

-- what follows the first space
abbrev pub rest : List ℕ → List ℕ
rest line = after_first 32 line
