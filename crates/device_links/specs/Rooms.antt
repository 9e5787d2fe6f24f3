-- Room for one more link in the tables, and the tables with it.
use Rattle.std.specs.Prelude.{◌≡◌, ◌≤◌, ◌<◌, ◌+◌, ℕ, Bool, length, slice_index, if◌then◌else◌, Some}
use Rattle.sleep_model.specs.declared.machine.Link.{Link}
use Rattle.device_rows.specs.Table.{row_at, room_at, with_number}
use Rattle.device_links.specs.declared.seen.Tables.{Tables}

-- the tables have a row for each end of a link
pub record HaveEnds (l : Link) (t : Tables) : Type 0 where
  pub dependents : l.supplier < length t.dependents.rows
  pub below : l.supplier < length t.below.rows
  pub suppliers : l.consumer < length t.suppliers.rows
  pub above : l.consumer < length t.above.rows

-- the rows are the same, with no less capacity
pub record AreRoomier (old new : Tables) : Type 0 where
  pub dependents : new.dependents.rows ≡ old.dependents.rows
  pub below : new.below.rows ≡ old.below.rows
  pub suppliers : new.suppliers.rows ≡ old.suppliers.rows
  pub above : new.above.rows ≡ old.above.rows
  pub places_below : (d : ℕ) → room_at old.below d ≤ room_at new.below d
  pub places_above : (d : ℕ) → room_at old.above d ≤ room_at new.above d

-- the rows of a link's ends have room for one more number, and for all that may come to be seen there
pub record HaveRoom (l : Link) (t : Tables) : Type 0 where
  pub dependents : 0 < slice_index t.dependents.room l.supplier
  pub suppliers : 0 < slice_index t.suppliers.room l.consumer
  pub below : 0 < slice_index t.below.room l.supplier
  pub above : 0 < slice_index t.above.room l.consumer
  pub most_below : length (row_at t.dependents l.supplier) + 2 ≤ room_at t.below l.supplier
  pub most_above : length (row_at t.suppliers l.consumer) + 2 ≤ room_at t.above l.consumer

-- the tables with one more link; what is left out is seen neither below nor above
pub record ArePut (l : Link) (left_out : Bool) (old new : Tables) : Type 0 where
  pub dependents : new.dependents.rows ≡ with_number old.dependents.rows (Some l.supplier) l.consumer
  pub suppliers : new.suppliers.rows ≡ with_number old.suppliers.rows (Some l.consumer) l.supplier
  pub below : new.below.rows ≡ (if left_out then old.below.rows else with_number old.below.rows (Some l.supplier) l.consumer)
  pub above : new.above.rows ≡ (if left_out then old.above.rows else with_number old.above.rows (Some l.consumer) l.supplier)
  pub places_below : (d : ℕ) → room_at old.below d ≤ room_at new.below d
  pub places_above : (d : ℕ) → room_at old.above d ≤ room_at new.above d
