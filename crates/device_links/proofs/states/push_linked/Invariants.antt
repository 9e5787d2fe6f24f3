-- The invariant of the loop of `push_linked`.
use Rattle.std.proofs.Common.{take, reverse}
use Rattle.device_links.specs.Ends.{active_beside}
use Rattle.device_links.proofs.InPlace.{IsRefilled}
use Rattle.device_links.proofs.Numbering.{picked}
use Rattle.device_links.proofs.states.push_linked.Given as goal

abbrev pub invariant-loop-number : goal.invariant-loop-number
invariant-loop-number l = IsRefilled l.fn.table l.device (active_beside l.end l.parents (reverse (take l.number-index (picked l.links l.numbers))) l.device) l.table
