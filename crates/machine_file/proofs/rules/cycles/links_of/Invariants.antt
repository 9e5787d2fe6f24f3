-- The invariant of the loop of `links_of`.
use Rattle.std.proofs.Common.{◌≡◌, map, take}
use Rattle.borrowed_json.specs.View.{view}
use Rattle.file_rules.specs.Seen.{links_between}
use Rattle.machine_file.proofs.rules.cycles.links_of.Given as goal

abbrev pub invariant-loop-i : goal.invariant-loop-i
invariant-loop-i l = l.all.items ≡ links_between (take l.i l.places) (map view (take l.i l.links))
