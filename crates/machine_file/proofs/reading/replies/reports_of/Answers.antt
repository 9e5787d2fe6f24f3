-- Proof that the loop of `reports_of` keeps its invariant, and that it meets what `report_of` requires.
use Rattle.std.proofs.Common.{arith, codes}
use Rattle.std.proofs.lemmas.Grind.{common_steps}
use Rattle.file_rules.specs.Fitting.{FitsAt}
use Rattle.file_rules.proofs.Each.{value_each}
use Rattle.machine_file.proofs.reading.replies.reports_of.Goals as goal

pub report_of-requires-clause-fits : goal.report_of-requires-clause-fits
report_of-requires-clause-fits c = value_each (FitsAt (codes "ms")) c.args.reports.now c.loop-report.report-index c.report-item.result (omega arith) c.report-item.is c.requires.fit

pub loop-report-preserved : goal.loop-report-preserved
loop-report-preserved c = grind (arith, common_steps)
