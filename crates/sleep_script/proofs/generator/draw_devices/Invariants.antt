-- The invariant of the loop of `draw_devices`.
use Rattle.std.proofs.Common.{◌≡◌, ◌+◌, map}
use Rattle.std.specs.List.{range_with_len}
use Rattle.sleep_script.specs.Generated.{drawn_device}
use Rattle.sleep_script.proofs.generator.draw_devices.Given as goal

abbrev pub invariant-loop-number : goal.invariant-loop-number
invariant-loop-number l = (l.draws ≡ record { seed = l.fn.draws.seed; next = l.count + l.number }) × (l.devices.items ≡ map (drawn_device l.fn.draws.seed l.count) (range_with_len 0 l.number))
