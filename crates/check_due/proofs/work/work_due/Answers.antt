-- Proof by hand of `work_due`: what it returns, by the lemmas of `Choosing`.
use Rattle.std.proofs.Common.{◌≡◌, IfOk, subst, sym}
use Rattle.sleep_model.specs.declared.progress.Due.{Due}
use Rattle.sleep_model.specs.declared.progress.Work.{Work}
use Rattle.sleep_model.specs.declared.progress.Work.TheVariants.{Napping}
use Rattle.sleep_model.specs.declared.word.EventNow.{EventNow}
use Rattle.sleep_model.specs.Autosleep.{work_due}
use Rattle.check_past.specs.Passing.{journal_of}
use Rattle.check_due.proofs.Choosing.{ok_at}
use Rattle.check_due.proofs.work.work_due.Goals as goal

pub returns-in-Napping : goal.returns-in-Napping
returns-in-Napping c =
    let p = c.args.past.now in
    subst (λ (w : Work). IfOk c.nap_due.result (λ (d : Due). d ≡ work_due p.machine (journal_of p) c.args.now w)) (sym c.in-Napping.is)
    (ok_at c.nap_due.result (λ (now : EventNow). work_due p.machine (journal_of p) now (Napping c.in-Napping.until)) c.args.now c.nap_due.ensures)
