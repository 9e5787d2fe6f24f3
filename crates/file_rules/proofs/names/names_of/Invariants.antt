-- The invariant of the loop of `names_of`.
use Rattle.std.proofs.Common.{◌≡◌, map, take}
use Rattle.borrowed_json.specs.View.{view}
use Rattle.file_rules.specs.Rules.{name_of}
use Rattle.file_rules.proofs.names.names_of.Given as goal

abbrev pub invariant-loop-value : goal.invariant-loop-value
invariant-loop-value l = map (λ s. s.now) l.names.items ≡ map name_of (map view (take l.value-index l.list))
