-- The invariant of the loop of `push_escaped`.
use Rattle.std.proofs.Common.{◌≡◌, ◌++◌, take, flat_map}
use Rattle.json.specs.Print.{escape_byte}
use Rattle.machine_file.proofs.writing.quoted.push_escaped.Given as goal

abbrev pub invariant-loop-byte : goal.invariant-loop-byte
invariant-loop-byte l = l.out.items ≡ l.initial.out.items ++ flat_map escape_byte (take l.byte-index l.text)
