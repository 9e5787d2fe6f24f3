-- What the text of a log has besides the lines of its entries.
use Rattle.std.specs.Prelude.{ℕ, List}
use Rattle.sleep_model.specs.declared.machine.Machine.{Machine}

-- the machine whose names the lines have, and the lines after those of the entries
pub record Frame : Type 0 where
  pub machine : Machine
  pub closing : List ℕ

-- lines on their way: the machine whose names they have, and the bytes that are held back
pub record Streamed : Type 0 where
  pub machine : Machine
  pub buffered : List ℕ
