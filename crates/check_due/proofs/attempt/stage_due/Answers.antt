-- Proof by hand of `stage_due`: what it returns.
use Rattle.std.proofs.Common.{◌≡◌, subst, sym}
use Rattle.sleep_model.specs.declared.progress.Stage.{Stage}
use Rattle.sleep_model.specs.Attempt.{stage_due}
use Rattle.check_past.specs.Passing.{journal_of}
use Rattle.check_due.proofs.attempt.stage_due.Goals as goal

pub returns-in-Notifies : goal.returns-in-Notifies
returns-in-Notifies c =
    let p = c.args.past.now in
    subst (λ (s : Stage). c.notify_prepare_due.result ≡ stage_due p.machine (journal_of p) c.args.now s) (sym c.in-Notifies.is) (c.notify_prepare_due.ensures c.args.now)

pub returns-in-StopsSyscore : goal.returns-in-StopsSyscore
returns-in-StopsSyscore c =
    let p = c.args.past.now in
    subst (λ (s : Stage). c.syscore_suspend_due.result ≡ stage_due p.machine (journal_of p) c.args.now s) (sym c.in-StopsSyscore.is) (c.syscore_suspend_due.ensures c.args.now)

pub returns-in-StartsSyscore : goal.returns-in-StartsSyscore
returns-in-StartsSyscore c =
    let p = c.args.past.now in
    subst (λ (s : Stage). c.syscore_resume_due.result ≡ stage_due p.machine (journal_of p) c.args.now s) (sym c.in-StartsSyscore.is) (c.syscore_resume_due.ensures c.args.now)

pub returns-in-StartsCpus : goal.returns-in-StartsCpus
returns-in-StartsCpus c =
    let p = c.args.past.now in
    subst (λ (s : Stage). c.cpu_on_due.result ≡ stage_due p.machine (journal_of p) c.args.now s) (sym c.in-StartsCpus.is) (c.cpu_on_due.ensures c.args.now)

pub returns-in-NotifiesPost : goal.returns-in-NotifiesPost
returns-in-NotifiesPost c =
    let p = c.args.past.now in
    subst (λ (s : Stage). c.notify_post_due.result ≡ stage_due p.machine (journal_of p) c.args.now s) (sym c.in-NotifiesPost.is) (c.notify_post_due.ensures c.args.now)
