-- The invariant of the loop of `tables_of`.
use Rattle.std.proofs.Common.{take, reverse}
use Rattle.device_links.specs.Passes.{AreApart, AreTables}
use Rattle.device_links.proofs.at_once.tables_of.Given as goal

abbrev pub invariant-loop-link : goal.invariant-loop-link
invariant-loop-link l = AreApart l.parents (reverse (take l.link-index l.links)) × AreTables l.parents (reverse (take l.link-index l.links)) l.tables
