-- The invariant of the loop of `push_sources`.
use Rattle.std.proofs.Common.{◌≡◌, ◌++◌, take, flat_map}
use Rattle.lock_commands.specs.Answers.{counted_line}
use Rattle.lock_commands.proofs.text.push_sources.Given as goal

abbrev pub invariant-loop-lock : goal.invariant-loop-lock
invariant-loop-lock l = l.out.items ≡ l.initial.out.items ++ flat_map counted_line (take l.lock-index l.all)
