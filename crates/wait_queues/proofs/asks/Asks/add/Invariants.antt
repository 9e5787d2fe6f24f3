-- The invariant of the loop of `Asks::add`.
use Rattle.std.proofs.Common.{◌≡◌, ℕ, ◌<◌, ◌≤◌, List, length, get_or}
use Rattle.std.specs.Prelude.{bit_or}
use Rattle.wait_queues.proofs.asks.Asks.add.Given as goal

-- the words before this place are those of both
pub record BothBelow (words others changed : List ℕ) (end : ℕ) : Type 0 where
  pub long : length changed ≡ length words
  pub below : (k : ℕ) → k < end → get_or changed k 0 ≡ bit_or (get_or words k 0) (get_or others k 0)
  pub above : (k : ℕ) → end ≤ k → get_or changed k 0 ≡ get_or words k 0

abbrev pub invariant-loop-at : goal.invariant-loop-at
invariant-loop-at l =
    BothBelow l.initial.self-inside.words.items l.other-inside.words.items l.self-inside.words.items l.at × (l.length ≡ length l.self-inside.words.items) × (l.self-inside.full ≡ l.initial.self-inside.full)
