-- What contracts see of rows of numbers.
use Rattle.std.specs.Prelude.{ℕ, ◌+◌, List, [], ◌∷◌, ◌++◌, length, slice_index_or, slice_set, Option, Some, None}

-- the rows, and how many more numbers each takes without memory
pub record Table : Type 0 where
  pub rows : List (List ℕ)
  pub room : List ℕ

-- the row at an index, and none past the end
abbrev pub row_at : Table → ℕ → List ℕ
row_at t d = slice_index_or t.rows d []

-- how many numbers a row has room for, without more memory
abbrev pub room_at : Table → ℕ → ℕ
room_at t d = length (row_at t d) + slice_index_or t.room d 0

-- the rows with one more number at the end of one of them, or as they are
abbrev pub with_number : List (List ℕ) → Option ℕ → ℕ → List (List ℕ)
with_number rows None x = rows
with_number rows (Some d) x = slice_set rows d (slice_index_or rows d [] ++ x ∷ [])
