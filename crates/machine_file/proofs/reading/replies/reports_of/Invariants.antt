-- The invariant of the loop of `reports_of`.
use Rattle.std.proofs.Common.{◌≡◌, map, take}
use Rattle.borrowed_json.specs.View.{view}
use Rattle.file_rules.specs.Answering.{whole_report}
use Rattle.file_rules.specs.Knows.{texts}
use Rattle.machine_file.proofs.reading.replies.reports_of.Given as goal

abbrev pub invariant-loop-report : goal.invariant-loop-report
invariant-loop-report l = l.all.items ≡ map (whole_report (texts l.sources)) (map view (take l.report-index l.reports))
