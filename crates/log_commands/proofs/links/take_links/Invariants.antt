-- The invariant of the loop of `take_links`, and the number that falls each time.
use Rattle.std.proofs.Common.{◌≡◌, length, reverse}
use Rattle.sleep_model.specs.Interleaved.{unread}
use Rattle.sleep_stats.specs.Linked.{added_by}
use Rattle.log_commands.specs.Taking.{AllWithin, LinksAreOrdered, refusal_of}
use Rattle.log_commands.proofs.links.take_links.Given as goal

-- what is left to read is refused as the whole is, and leaves the same links
abbrev pub invariant-loop-entry : goal.invariant-loop-entry
invariant-loop-entry l = record {
  refused : refusal_of l.fn.links.parents (reverse l.links.links) (unread l.reader) ≡ refusal_of l.fn.links.parents (reverse l.fn.links.links) l.fn.log.entries;
  added : added_by (reverse l.links.links) (unread l.reader) ≡ added_by (reverse l.fn.links.links) l.fn.log.entries;
  parents : l.links.parents ≡ l.fn.links.parents;
  within : AllWithin (length l.fn.links.parents) (unread l.reader);
  stands : LinksAreOrdered l.links;
}

abbrev pub decreases-loop-entry : goal.decreases-loop-entry
decreases-loop-entry l = length (unread l.reader)
