-- The invariant of the loop of `option_index`.
use Rattle.std.proofs.Common.{◌≡◌, ◌+◌, drop, map, string_bytes}
use Rattle.command_line.specs.Words.{option_index}
use Rattle.command_line.proofs.idle.option_index.Given as goal

-- the option does not begin with a word before
abbrev pub invariant-loop-place : goal.invariant-loop-place
invariant-loop-place l = l.place + option_index (map string_bytes (drop l.place l.words)) ≡ option_index (map string_bytes l.words)
