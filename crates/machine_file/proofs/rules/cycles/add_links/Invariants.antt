-- The invariant of the loop of `add_links`.
use Rattle.machine_file.proofs.Cycling.{Adding}
use Rattle.machine_file.proofs.rules.cycles.add_links.Given as goal

abbrev pub invariant-loop-i : goal.invariant-loop-i
invariant-loop-i l = Adding l.parents l.links l.i l.added
