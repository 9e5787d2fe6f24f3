-- The invariant of the loop of `draw_parents`.
use Rattle.std.proofs.Common.{◌≡◌, map}
use Rattle.std.specs.List.{range_with_len}
use Rattle.sleep_script.specs.Generated.{drawn_parent}
use Rattle.sleep_script.proofs.generator.draw_parents.Given as goal

abbrev pub invariant-loop-device : goal.invariant-loop-device
invariant-loop-device l = (l.draws ≡ record { seed = l.fn.draws.seed; next = l.device }) × (l.parents.items ≡ map (drawn_parent l.fn.draws.seed) (range_with_len 0 l.device))
