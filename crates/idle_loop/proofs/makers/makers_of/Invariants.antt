-- The invariant of the loop of `makers_of`.
use Rattle.std.proofs.Common.{◌≡◌, ℕ, List}
use Rattle.idle_loop.specs.Makers.{AreMakers}
use Rattle.idle_loop.proofs.Filling.{AreFilled}
use Rattle.idle_loop.proofs.makers.makers_of.Given as goal

abbrev pub invariant-loop-own : goal.invariant-loop-own
invariant-loop-own l = (l.who ≡ l.own-index) × ((ms : List ℕ) → AreMakers l.count ms l.ranks.items → AreFilled l.who ms l.makers.items)
