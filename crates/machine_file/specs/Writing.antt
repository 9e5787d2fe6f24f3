-- What a writer of JSON has written, and what a member, an item or a bracket adds to it.
use Rattle.std.specs.Prelude.{ℕ, List, [], ◌∷◌, ◌++◌, Bool, true, false, Option, Some, None}
use Rattle.json.specs.Print.{quoted}
use Rattle.serde_json.specs.Data.{Data}
use Rattle.serde_json.specs.Written.{comma_if, compact_text}
use Rattle.file_rules.specs.Form.{Named}

-- what was written; later, if a value or a member was the last, so that a comma comes before the next
pub record Sheet : Type 0 where
  pub text : List ℕ
  pub later : Bool

-- nothing yet
abbrev pub blank : Sheet
blank = record { text = []; later = false }

-- these bytes after it
abbrev pub added : List ℕ → Bool → Sheet → Sheet
added text later s = record { text = s.text ++ text; later = later }

-- a value among others
abbrev pub with_item : Sheet → Data → Sheet
with_item s d = added (comma_if s.later ++ compact_text d) true s

-- a member, if it has a value
abbrev pub with_member : List ℕ → Option Data → Sheet → Sheet
with_member name None s = s
with_member name (Some d) s = added (comma_if s.later ++ (quoted name ++ 58 ∷ compact_text d)) true s

-- the member of a row
abbrev pub with_row : Sheet → Named (Option Data) → Sheet
with_row s r = with_member r.name r.is s

-- an object's first bracket
abbrev pub with_object : Sheet → Sheet
with_object s = added (comma_if s.later ++ 123 ∷ []) false s

-- its last
abbrev pub object_ended : Sheet → Sheet
object_ended s = added (125 ∷ []) true s
