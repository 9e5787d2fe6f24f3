-- The invariant of the loop of `put_levels`.
use Rattle.std.proofs.Common.{◌≡◌, ◌++◌, drop}
use Rattle.log_commands.specs.Telling.{levels_text}
use Rattle.log_commands.proofs.texts.put_levels.Given as goal

-- the lines so far, and those that are left
abbrev pub invariant-loop-number : goal.invariant-loop-number
invariant-loop-number l = l.text.items ++ levels_text l.fn.machine l.number (drop l.number l.fn.levels) ≡ l.fn.text.items ++ levels_text l.fn.machine 0 l.fn.levels
