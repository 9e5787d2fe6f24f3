-- The invariant of the loop of `set_all`.
use Rattle.std.proofs.Common.{◌≡◌, take}
use Rattle.device_rows.specs.Table.{row_at}
use Rattle.device_links.specs.Spread.{spread}
use Rattle.device_links.proofs.depends.set_all.Given as goal

abbrev pub invariant-loop-device : goal.invariant-loop-device
invariant-loop-device l = l.marks ≡ spread (row_at l.table) (take l.device-index l.order) l.fn.marks
