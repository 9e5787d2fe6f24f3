-- The invariant of the loop of `links_in`.
use Rattle.std.proofs.Common.{◌≡◌, map, take, true}
use Rattle.std.specs.List.{list_all}
use Rattle.borrowed_json.specs.View.{view}
use Rattle.file_rules.specs.Kept.{is_valid_link}
use Rattle.file_rules.specs.Knows.{names}
use Rattle.file_rules.specs.Spelled.{link_of}
use Rattle.machine_file.proofs.reading.links.links_in.Given as goal

abbrev pub invariant-loop-link : goal.invariant-loop-link
invariant-loop-link l =
    (list_all (is_valid_link l.second (names l.devices)) (map view (take l.link-index l.links)) ≡ true)
    × (l.all.items ≡ map (link_of (names l.devices)) (map view (take l.link-index l.links)))
