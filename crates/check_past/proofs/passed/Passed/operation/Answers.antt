-- Proof by hand of `operation`: what it returns, by the lemmas of `Naming`.
use Rattle.std.proofs.Common.{Option, IfSome, subst, sym}
use Rattle.sleep_model.specs.declared.machine.Op.{Op}
use Rattle.sleep_model.specs.Accepted.{IsOp}
use Rattle.check_past.specs.Passing.{journal_of}
use Rattle.check_past.proofs.Naming.{names}
use Rattle.check_past.proofs.passed.Passed.operation.Goals as goal

pub returns-clause-named : goal.returns-clause-named
returns-clause-named c =
    let p = c.args.self.now in
    subst (λ (o : Option Op). IfSome o (λ (op : Op). IsOp p.machine op)) (sym c.under_way.ensures)
    (names p.machine (journal_of p) c.args.script c.is_accepted.ensures.scripts)
