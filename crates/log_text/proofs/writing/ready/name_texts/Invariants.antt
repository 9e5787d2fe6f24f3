-- The invariant of the loop of `name_texts`.
use Rattle.std.proofs.Common.{◌≡◌, take}
use Rattle.log_text.proofs.writing.ready.name_texts.Given as goal

abbrev pub invariant-loop-name : goal.invariant-loop-name
invariant-loop-name l = l.texts.items ≡ take l.name-index l.names
