-- The invariant of the loop of `push_lines`.
use Rattle.std.proofs.Common.{◌≡◌, ◌++◌, take, flat_map}
use Rattle.idle_commands.specs.Lines.{idle_line}
use Rattle.idle_commands.proofs.text.push_lines.Given as goal

abbrev pub invariant-loop-entry : goal.invariant-loop-entry
invariant-loop-entry l = l.out.items ≡ l.initial.out.items ++ flat_map (idle_line l.wakers) (take l.entry-index l.entries)
