-- The invariant of the loop of `set_row`.
use Rattle.std.proofs.Common.{◌≡◌, take}
use Rattle.device_links.specs.Spread.{marked}
use Rattle.device_links.proofs.depends.set_row.Given as goal

abbrev pub invariant-loop-device : goal.invariant-loop-device
invariant-loop-device l = l.marks ≡ marked (take l.device-index l.row) l.fn.marks
