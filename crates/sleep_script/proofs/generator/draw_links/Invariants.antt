-- The invariant of the loop of `draw_links`.
use Rattle.std.proofs.Common.{◌≡◌, ◌+◌, ◌*◌}
use Rattle.sleep_script.specs.Generated.{drawn_links}
use Rattle.sleep_script.proofs.generator.draw_links.Given as goal

abbrev pub invariant-loop : goal.invariant-loop
invariant-loop l = (l.draws ≡ record { seed = l.fn.draws.seed; next = 2 * l.devices + 2 * l.counter }) × (l.links.items ≡ drawn_links l.fn.draws.seed l.devices l.counter)
