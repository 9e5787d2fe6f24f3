-- The invariant of the loop of `JsonWriter::items`.
use Rattle.std.proofs.Common.{◌≡◌, fold, map, take}
use Rattle.machine_file.specs.Writing.{with_item}
use Rattle.machine_file.proofs.writing.writer.JsonWriter.items.Given as goal

abbrev pub invariant-loop-item : goal.invariant-loop-item
invariant-loop-item g l = l.self ≡ fold with_item l.initial.self (map (g.T.Written.value l.machine) (take l.item-index l.items))
