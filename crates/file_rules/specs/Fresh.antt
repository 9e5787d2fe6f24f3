-- Links that may be added in turn, unless they close a cycle.
use Rattle.std.specs.Prelude.{◌≡◌, ◌≤◌, ◌<◌, ℕ, Bool, false, not, List, length, take, reverse, slice_index_or, Option}
use Rattle.sleep_model.specs.declared.machine.Link.{Link}
use Rattle.sleep_model.specs.Order.{is_among, dependents, moved}
use Rattle.sleep_model.specs.Links.{is_linked}

-- its supplier is not its consumer, and hangs nowhere below it by the parents and these links (device_is_dependent)
abbrev pub closes_nothing : List (Option ℕ) → List Link → Link → Bool
closes_nothing parents before l = not (is_among (moved (length parents) (dependents parents before) l.consumer) l.supplier)

-- both its ends are registered, and it is none of these
pub record IsFresh (parents : List (Option ℕ)) (before : List Link) (l : Link) : Type 0 where
  pub supplier : l.supplier < length parents
  pub consumer : l.consumer < length parents
  pub new : is_linked before l.supplier l.consumer ≡ false

-- what is read past the end
abbrev pub no_link : Link
no_link = record { supplier = 0; consumer = 0; active = false }

-- each differs from those before it, and they are at most 4,000
pub record AreFresh (parents : List (Option ℕ)) (links : List Link) : Type 0 where
  pub few : length links ≤ 4000
  pub each : (i : ℕ) → i < length links → IsFresh parents (reverse (take i links)) (slice_index_or links i no_link)
