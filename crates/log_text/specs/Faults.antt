-- What holds of a fault's line.
use Rattle.std.specs.Prelude.{ℕ, List, [], ◌∷◌}
use Rattle.log_text.specs.declared.fault.LogFault.{LogFault}
use Rattle.log_text.specs.declared.fault.LogFault.TheVariants.{Line, Mem}
use Rattle.log_text.specs.Grammar.{IsSourceLine}

-- so it is of the line, if the fault has one
abbrev pub AtLine : LogFault → (ℕ → Type 0) → Type 0
AtLine (Line n) P = P n
AtLine Mem P = Unit {0}

-- the first of these lines is missing, or is not that of the source of that name
abbrev pub IsNoSource : List ℕ → List (List ℕ) → Type 0
IsNoSource name [] = Unit {0}
IsNoSource name (line ∷ rest) = IsSourceLine name line → ⊥
