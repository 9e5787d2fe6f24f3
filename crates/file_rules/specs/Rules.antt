-- A thing's name and the version of a machine file, each a test of its JSON value.
use Rattle.std.specs.Prelude.{ℕ, ◌||◌, List, codes, Bool}
use Rattle.serde_json.specs.Data.{Data}
use Rattle.serde_json.specs.Find.{get}
use Rattle.borrowed_json.specs.Look.{is_some_and, is_number, text_at}

-- the name of a device or an actor
abbrev pub name_of : Data → List ℕ
name_of d = text_at (codes "name") d

-- the file names its version, and it is one of the two known
abbrev pub has_version : Data → Bool
has_version d = is_some_and (λ v. is_number 1 v || is_number 2 v) (get (codes "version") d)

-- the version is there, and is 2: links may be dormant, and scripts may change them
abbrev pub is_second : Data → Bool
is_second d = is_some_and (is_number 2) (get (codes "version") d)
