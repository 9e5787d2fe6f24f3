-- Proof that in `Core::answered_reports` the indices and sums stay in range.
use Rattle.std.proofs.Common.{◌∙◌, ◌≤◌, List, length, ap, sym, subst, arith}
use Rattle.sleep_model.specs.declared.machine.Answer.{Answer}
use Rattle.sleep_model.specs.declared.machine.Machine.{Machine}
use Rattle.sleep_model.specs.declared.machine.Report.{Report}
use Rattle.sleep_model.specs.declared.machine.What.TheVariants as what
use Rattle.sleep_model.specs.Answers.{answer_reports}
use Rattle.machine_plans.specs.PlannedAnswers.{answer_among}
use Rattle.sleep_core.proofs.Reporting.{reports_few}
use Rattle.sleep_core.proofs.state.Core.answered_reports.Goals as goal

pub overflow_cast-result : goal.overflow_cast-result
overflow_cast-result c =
    let m = c.self.inside.history.machine in
    let thing = what.Device c.args.device c.args.phase in
    let is = c.answers-answers.ensures ∙ ap (λ (x : Machine). x.answers) c.self.invariant.plans_are in
    let are = c.reports.ensures ∙ ap (λ (answers : List Answer). answer_reports (answer_among answers thing c.attempts.result)) is in
    let few : length c.reports.result.now ≤ 16 = subst (λ (rs : List Report). length rs ≤ 16) (sym are) (reports_few m thing c.attempts.result c.self.invariant.core.accepted.answers) in
    omega (arith, few)
