-- Proof that `World::report` meets its contract, and that it meets what `report` requires.
use Rattle.std.proofs.Common.{◌∙◌, ap, sym}
use Rattle.run_world.specs.Roots.{WorldRoot}
use Rattle.run_world.proofs.Taking.{report_made, source_taken}
use Rattle.run_world.proofs.world.World.report.Goals as goal

pub report-answer-requires-clause-source : goal.report-answer-requires-clause-source
report-answer-requires-clause-source g c =
    ap (λ (r : WorldRoot). r.machine) (source_taken _ _ _ _ c.args.pass.token c.requires.pass c.args.source c.take-held.result.value c.value.result.now c.take-held.ensures.taken c.value.ensures.value)

pub report-answer-requires-clause-table : goal.report-answer-requires-clause-table
report-answer-requires-clause-table g c =
    ap (λ (r : WorldRoot). r.table) (source_taken _ _ _ _ c.args.pass.token c.requires.pass c.args.source c.take-held.result.value c.value.result.now c.take-held.ensures.taken c.value.ensures.value)

pub report-answer-requires-clause-now : goal.report-answer-requires-clause-now
report-answer-requires-clause-now g c =
    let is = ap (λ (r : WorldRoot). r.moment) (source_taken _ _ _ _ c.args.pass.token c.requires.pass c.args.source c.take-held.result.value c.value.result.now c.take-held.ensures.taken c.value.ensures.value) in
    c.requires.now ∙ sym is

pub returns-clause-made : goal.returns-clause-made
returns-clause-made g c =
    let number = ap (λ (r : WorldRoot). r.number) (source_taken _ _ _ _ c.args.pass.token c.requires.pass c.args.source c.take-held.result.value c.value.result.now c.take-held.ensures.taken c.value.ensures.value) in
    report_made c.value.result.now c.take-held.result.value c.report-answer.new.self _ _ _ _ _ c.value.ensures.value c.take-held.ensures.list c.take-held.ensures.same.1 c.give.ensures.made
    c.args.by c.args.call c.args.source c.args.pass.token c.report-answer.result number c.take-held.ensures.held.1 c.take-held.ensures.taken c.report-answer.ensures.after
