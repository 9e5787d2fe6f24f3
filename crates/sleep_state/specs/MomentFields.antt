-- What the fields of the moments are.
use Rattle.std.specs.Prelude.{◌≡◌, ◌*◌, ℕ, List, drop, length}
use Rattle.sleep_state.specs.declared.moments.Moments.TheInside.{Inside}
use Rattle.sleep_state.specs.Trees.{AreLeastBelow}

-- the things' own moments are the last
abbrev pub own : Inside → List ℕ
own m = drop m.many m.nodes.items

-- the nodes are a tree
pub record IsSleepTree (m : Inside) : Type 0 where
  pub size : length m.nodes.items ≡ 2 * m.many
  pub joined : AreLeastBelow m.many m.nodes.items

-- what holds of the moments between calls
abbrev pub moments_invariant : Inside → Type 0
moments_invariant m = IsSleepTree m
