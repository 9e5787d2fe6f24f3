-- The invariant of the loop of `ends_of`.
use Rattle.std.proofs.Common.{◌≡◌, map, take}
use Rattle.borrowed_json.specs.View.{view}
use Rattle.file_rules.specs.Seen.{ends_seen, ends_written}
use Rattle.file_rules.proofs.rules.pairs.ends_of.Given as goal

abbrev pub invariant-loop-link : goal.invariant-loop-link
invariant-loop-link l = map ends_seen l.ends.items ≡ map ends_written (map view (take l.link-index l.links))
