-- Rows of devices by their links, and a row with one more number.
use Rattle.std.specs.Prelude.{◌≡◌, ◌≤◌, ◌||◌, ℕ, Bool, not, List, [], length, slice_index_or, if◌then◌else◌, Option, Some, None}
use Rattle.sleep_model.specs.declared.machine.Link.{Link}
use Rattle.sleep_model.specs.Order.{is_parent}
use Rattle.device_rows.specs.Table.{Table, room_at, with_number}

-- n rows, each as f says
pub record IsTableOf (n : ℕ) (f : ℕ → List ℕ) (rows : List (List ℕ)) : Type 0 where
  pub count : length rows ≡ n
  pub each : (d : ℕ) → slice_index_or rows d [] ≡ f d

-- a number is put at the end of a row, or left out, and the row has room for that number of them
pub record IsPushed (left_out : Bool) (row number count : ℕ) (old new : Table) : Type 0 where
  pub rows : new.rows ≡ (if left_out then old.rows else with_number old.rows (Some row) number)
  pub kept : (d : ℕ) → room_at old d ≤ room_at new d
  pub made : count ≤ room_at new row

-- a link is put neither below nor above: it is dormant, or between a parent and its child
abbrev pub is_left_out : List (Option ℕ) → Link → Bool
is_left_out parents l = not l.active || is_parent l.supplier (slice_index_or parents l.consumer None)
