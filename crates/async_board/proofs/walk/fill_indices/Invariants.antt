-- The devices so far have their indices.
use Rattle.std.proofs.Common.{◌≡◌, ◌<◌, ℕ, length, get_or}
use Rattle.async_board.proofs.walk.fill_indices.Given as goal

abbrev pub invariant-loop-place : goal.invariant-loop-place
invariant-loop-place l =
    (length l.indices ≡ length l.order)
    × ((i : ℕ) → i < l.place → get_or l.indices (get_or l.order i 0) 0 ≡ i)
