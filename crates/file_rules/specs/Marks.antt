-- The marks of scripts.
use Rattle.std.specs.Prelude.{ℕ, List, codes}
use Rattle.serde_json.specs.Data.{Data}
use Rattle.borrowed_json.specs.Look.{list_in}
use Rattle.file_rules.specs.Operations.{marks_of}

-- the marks of an actor's script, one for each time that one is named
abbrev pub marks_of_script : Data → List (List ℕ)
marks_of_script a = marks_of (list_in (codes "script") a)
