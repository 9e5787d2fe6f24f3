-- A piece of the texts that commands write (own).
use Rattle.std.specs.Prelude.{ℕ, List, ◌++◌, decimal}

-- a number after its word
abbrev pub with_number : List ℕ → ℕ → List ℕ
with_number word n = word ++ decimal n
