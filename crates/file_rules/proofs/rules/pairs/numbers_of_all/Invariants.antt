-- The invariant of the loop of `numbers_of_all`.
use Rattle.std.proofs.Common.{◌≡◌, map, take}
use Rattle.file_rules.specs.Seen.{ends_seen, end_numbers}
use Rattle.file_rules.specs.Knows.{names}
use Rattle.file_rules.proofs.rules.pairs.numbers_of_all.Given as goal

abbrev pub invariant-loop-link : goal.invariant-loop-link
invariant-loop-link l = l.places.items ≡ map (end_numbers (names l.devices)) (map ends_seen (take l.link-index l.ends))
