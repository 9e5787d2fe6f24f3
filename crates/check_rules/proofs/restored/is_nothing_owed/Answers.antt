-- Proof by hand of `is_nothing_owed`: what it returns, by the lemmas of `Resting`.
use Rattle.std.proofs.Common.{Bool, IsTrue, ◌↔◌, subst, sym}
use Rattle.sleep_model.specs.Laws.{NothingOwed}
use Rattle.check_past.specs.Passing.{journal_of}
use Rattle.check_rules.proofs.Resting.{nothing_is}
use Rattle.check_rules.proofs.restored.is_nothing_owed.Goals as goal

pub returns : goal.returns
returns c =
    let m = c.args.past.now.machine in
    let past = journal_of c.args.past.now in
    subst (λ (b : Bool). IsTrue b ↔ NothingOwed m past) (sym c.both.ensures)
    (nothing_is m past c.is_no_device_owed.result c.is_no_task_owed.result c.is_no_device_owed.ensures c.is_no_task_owed.ensures)
