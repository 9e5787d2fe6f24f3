-- The JSON value that the bytes of a file are.
use Rattle.std.specs.Prelude.{ℕ, List, Option, None, if◌then◌else◌}
use Rattle.std.specs.Str.{is_utf8}
use Rattle.serde_json.specs.Data.{Data}
use Rattle.serde_json.specs.Read.{read}

-- The bytes are UTF-8, and their text is one JSON value that nests at most 127 deep. Of equal members the last one counts.
abbrev pub tree : List ℕ → Option Data
tree bytes = if is_utf8 bytes then read bytes else None
