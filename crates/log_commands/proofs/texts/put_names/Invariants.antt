-- The invariant of the loop of `put_names`.
use Rattle.std.proofs.Common.{◌≡◌, ◌++◌, drop}
use Rattle.log_commands.specs.Telling.{names_text}
use Rattle.log_commands.proofs.texts.put_names.Given as goal

-- the names so far, and those that are left
abbrev pub invariant-loop-number : goal.invariant-loop-number
invariant-loop-number l = l.text.items ++ names_text l.fn.machine (drop l.number-index l.fn.devices) ≡ l.fn.text.items ++ names_text l.fn.machine l.fn.devices
