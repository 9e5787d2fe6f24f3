-- The invariant of the loop of `link_index_of`.
use Rattle.std.proofs.Common.{◌≡◌, take}
use Rattle.indexmap.specs.IndexMap.{get}
use Rattle.sleep_stats.specs.contracts.linked.EndsPartialEq.TheImpl.{eq-value}
use Rattle.sleep_stats.specs.States.{AreMarked}
use Rattle.sleep_stats.proofs.linked.link_index_of.Given as goal

-- the links so far
abbrev pub invariant-loop-link : goal.invariant-loop-link
invariant-loop-link l = record {
  links : l.link_index.links.items ≡ take l.link-index l.fn.links;
  marked : AreMarked l.link_index.links.items (get eq-value.it l.link_index.ends);
}
