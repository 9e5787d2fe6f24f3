-- The invariant of the loop of `push_children`.
use Rattle.std.proofs.Common.{take}
use Rattle.device_links.proofs.InPlace.{IsRefilled}
use Rattle.device_links.proofs.states.push_children.Given as goal

abbrev pub invariant-loop-child : goal.invariant-loop-child
invariant-loop-child l = IsRefilled l.fn.table l.device (take l.child-index l.children) l.table
