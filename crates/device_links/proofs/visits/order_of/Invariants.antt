-- The invariant of the loop of `order_of`.
use Rattle.std.proofs.Common.{take, reverse}
use Rattle.device_links.proofs.Ordered.{AreWalked}
use Rattle.device_links.proofs.visits.order_of.Given as goal

abbrev pub invariant-loop-i : goal.invariant-loop-i
invariant-loop-i l = AreWalked l.parents (reverse l.links) (reverse (take l.i l.links)) l.visits
