-- What the fields of the positions are.
use Rattle.std.specs.Prelude.{◌≡◌, List, map}
use Rattle.sleep_model.specs.declared.progress.ScriptPosition.{ScriptPosition}
use Rattle.sleep_state.specs.declared.positions.ScriptPositions.TheInside.{Inside}
use Rattle.sleep_state.specs.Sleepers.{is_awake, is_there, count_of}
use Rattle.sleep_state.specs.Trees.{moment_of}

-- the positions of the scripts
abbrev pub positions_seen : Inside → List ScriptPosition
positions_seen s = s.positions.items

-- the ends of their sleeps are those of the positions, and it is counted how many are awake, and how many have not exited
pub record PositionsInvariant (s : Inside) : Type 0 where
  pub ends_are : s.ends ≡ map (λ x. moment_of x.until) s.positions.items
  pub awake_is : s.awake ≡ count_of is_awake s.positions.items
  pub left_is : s.left ≡ count_of is_there s.positions.items

-- the invariant of the positions between calls
abbrev pub positions_invariant : Inside → Type 0
positions_invariant s = PositionsInvariant s
