-- The invariant of the loop of `new`.
use Rattle.std.proofs.Common.{◌≡◌, reverse, take}
use Rattle.check_order.proofs.graph.DeviceGraph.new.Given as goal

abbrev pub invariant-loop-link : goal.invariant-loop-link
invariant-loop-link l = l.graph ≡ record { parents = l.parents; links = reverse (take l.link-index l.links) }
