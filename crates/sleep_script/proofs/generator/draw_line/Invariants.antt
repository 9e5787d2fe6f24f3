-- The invariant of the loop of `draw_line`.
use Rattle.std.proofs.Common.{◌≡◌, ◌+◌, ◌*◌}
use Rattle.sleep_script.proofs.Drawn.{events}
use Rattle.sleep_script.proofs.generator.draw_line.Given as goal

abbrev pub invariant-loop : goal.invariant-loop
invariant-loop l = (l.draws ≡ record { seed = l.fn.draws.seed; next = l.fn.draws.next + 3 * l.counter }) × (l.steps.items ≡ events l.fn.draws.seed l.fn.draws.next l.counter)
