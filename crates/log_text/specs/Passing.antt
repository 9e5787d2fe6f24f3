-- What holds of bytes that are passed on to a sink.
use Rattle.std.specs.Prelude.{ℕ, List, ◌++◌, Option, Result}
use Rattle.sleep_base.specs.declared.outside.Failed.{Failed}
use Rattle.sleep_base.specs.Whole.{WriteAll}

-- of bytes, some were written from one moment of a sink to another: so what holds of the writing of those that are left holds of all
abbrev pub Takes : Option (List ℕ) → Option (List ℕ) → ℕ → ℕ → List ℕ → List ℕ → Type 0
Takes old mid before then all left =
    (new : Option (List ℕ)) (now : ℕ) (result : Result Unit Failed) → WriteAll mid new then now left result → WriteAll old new before now all result

-- the same of bytes in the buffer, whatever comes after them
abbrev pub Passes : Option (List ℕ) → Option (List ℕ) → ℕ → ℕ → List ℕ → List ℕ → Type 0
Passes old mid before then buffer left = (rest : List ℕ) → Takes old mid before then (buffer ++ rest) (left ++ rest)
