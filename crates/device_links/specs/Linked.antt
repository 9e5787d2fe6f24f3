-- What contracts see of links.
use Rattle.std.specs.Prelude.{ℕ, List, Option}
use Rattle.sleep_model.specs.declared.machine.Link.{Link}

-- the parent of each device, and the links that were added, the newest first
pub record Linked : Type 0 where
  pub parents : List (Option ℕ)
  pub links : List Link
