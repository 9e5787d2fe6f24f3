-- The invariant of the loop of `ScriptPositions::next_asked`.
use Rattle.std.proofs.Common.{◌≡◌, ◌≤◌, ◌<◌, ℕ, true}
use Rattle.sleep_model.specs.Positions.{position_at}
use Rattle.sleep_state.specs.Sleepers.{is_later}
use Rattle.sleep_state.proofs.positions.ScriptPositions.next_asked.Given as goal

abbrev pub invariant-loop-script : goal.invariant-loop-script
invariant-loop-script l = (k : ℕ) → l.from ≤ k → k < l.script → is_later (position_at l.self k).until l.now ≡ true
