-- The invariant of the loop of `push_spaced`.
use Rattle.std.proofs.Common.{◌≡◌, ◌++◌, take, flat_map}
use Rattle.lock_commands.specs.Answers.{spaced}
use Rattle.lock_commands.proofs.text.push_spaced.Given as goal

abbrev pub invariant-loop-name : goal.invariant-loop-name
invariant-loop-name l = l.out.items ≡ l.initial.out.items ++ flat_map spaced (take l.name-index l.names)
