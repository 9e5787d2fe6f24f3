-- Proof by hand of `froze_due`: what it returns, by the lemmas of `Freezing`.
use Rattle.std.proofs.Common.{◌≡◌, ◌∙◌, IfOk, ap, subst}
use Rattle.sleep_model.specs.declared.progress.Due.{Due}
use Rattle.sleep_model.specs.Freezer.{left}
use Rattle.check_past.specs.declared.tasks.UnfrozenTasks.{UnfrozenTasks}
use Rattle.check_past.specs.Passing.{journal_of}
use Rattle.check_due.specs.Frozen.{froze_by}
use Rattle.check_due.proofs.Freezing.{froze_is}
use Rattle.check_due.proofs.waits.froze_due.Goals as goal

pub returns : goal.returns
returns c =
    let p = c.args.past.now in
    let past = journal_of p in
    let told = ap (λ (l : UnfrozenTasks). froze_by past c.args.now c.args.group c.args.since l.count l.first) c.left.ensures ∙ froze_is past c.args.now c.args.group c.args.since (left p.machine c.args.group past) in
    subst (λ (x : Due). IfOk c.froze_by.result (λ (d : Due). d ≡ x)) told c.froze_by.ensures
