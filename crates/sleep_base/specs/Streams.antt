-- The two standard streams that take bytes.
use Rattle.std.specs.Prelude.{⊤}
use Rattle.sleep_base.specs.declared.standard.Stream.{Stream}
use Rattle.sleep_base.specs.declared.standard.Stream.TheVariants.{Output, Error}

-- it is standard output
abbrev pub IsOutput : Stream → Type 0
IsOutput (Output _) = ⊤
IsOutput (Error _) = ⊥

-- it is standard error
abbrev pub IsError : Stream → Type 0
IsError (Output _) = ⊥
IsError (Error _) = ⊤
