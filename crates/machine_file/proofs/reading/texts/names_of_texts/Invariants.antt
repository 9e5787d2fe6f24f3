-- The invariant of the loop of `names_of_texts`.
use Rattle.std.proofs.Common.{◌≡◌, take}
use Rattle.file_rules.specs.Knows.{texts}
use Rattle.machine_file.proofs.reading.texts.names_of_texts.Given as goal

abbrev pub invariant-loop-text : goal.invariant-loop-text
invariant-loop-text l = l.names.items ≡ texts (take l.text-index l.all)
