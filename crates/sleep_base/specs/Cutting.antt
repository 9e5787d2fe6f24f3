-- A text cut at the first byte of a value.
use Rattle.std.specs.Prelude.{ℕ, ◌==◌, List, [], ◌∷◌, if◌then◌else◌}

-- the bytes before the first of that value, all if there is none (strchr)
abbrev pub before : ℕ → List ℕ → List ℕ
before mark [] = []
before mark (b ∷ bytes) = if b == mark then [] else b ∷ before mark bytes

-- the bytes after the first of that value, none if there is none (strchr)
abbrev pub after_first : ℕ → List ℕ → List ℕ
after_first mark [] = []
after_first mark (b ∷ bytes) = if b == mark then bytes else after_first mark bytes
