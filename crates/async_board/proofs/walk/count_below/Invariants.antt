-- The devices so far have their counts.
use Rattle.std.proofs.Common.{◌≡◌, ◌<◌, ℕ, length, get_or}
use Rattle.sleep_model.specs.Order.{active_of, dependents}
use Rattle.sleep_model.specs.Links.{first_occurrences}
use Rattle.async_board.proofs.walk.count_below.Given as goal

abbrev pub invariant-loop-device : goal.invariant-loop-device
invariant-loop-device l =
    (length l.counts ≡ length l.links.parents)
    × ((i : ℕ) → i < l.device-index → get_or l.counts (get_or l.order i 0) 0 ≡ length (first_occurrences (dependents l.links.parents (active_of l.links.links) (get_or l.order i 0))))
