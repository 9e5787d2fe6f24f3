-- The invariant of the loop of `added_links`, and the measure by which it ends.
use Rattle.std.proofs.Common.{◌≡◌, length}
use Rattle.indexmap.specs.IndexMap.{get}
use Rattle.sleep_model.specs.Interleaved.{unread}
use Rattle.sleep_stats.specs.contracts.linked.EndsPartialEq.TheImpl.{eq-value}
use Rattle.sleep_stats.specs.Linked.{added_by, added_links}
use Rattle.sleep_stats.specs.States.{AreMarked}
use Rattle.sleep_stats.proofs.linked.added_links.Given as goal

-- what is left to read makes all links
abbrev pub invariant-loop-entry : goal.invariant-loop-entry
invariant-loop-entry l = record {
  added : added_by l.link_index.links.items (unread l.reader) ≡ added_links l.machine l.log;
  marked : AreMarked l.link_index.links.items (get eq-value.it l.link_index.ends);
}

abbrev pub decreases-loop-entry : goal.decreases-loop-entry
decreases-loop-entry l = length (unread l.reader)
