-- The invariant of the loop of `reports_of`.
use Rattle.std.proofs.Common.{◌≡◌, min, map, take, sum_by, length, codes}
use Rattle.borrowed_json.specs.View.{view}
use Rattle.borrowed_json.specs.Look.{list_in}
use Rattle.file_rules.proofs.rules.limits.reports_of.Given as goal

abbrev pub invariant-loop-answer : goal.invariant-loop-answer
invariant-loop-answer l = l.sum ≡ min (sum_by (λ a. length (list_in (codes "reports") a)) (map view (take l.answer-index l.answers))) 1000000
