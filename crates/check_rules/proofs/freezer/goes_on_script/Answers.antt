-- Proof by hand of `goes_on_script`: what it returns, by the lemmas of `Freezing`.
use Rattle.std.proofs.Common.{◌≡◌, ◌∙◌, ◌↔◌, ◌&&◌, IsTrue, false, slice_get, subst, sym}
use Rattle.sleep_model.specs.declared.progress.Freezing.{Freezing}
use Rattle.rule_definitions.specs.Freezer.{asked_now}
use Rattle.rule_definitions.specs.Questions.{op_of, position_of}
use Rattle.check_past.specs.Passing.{journal_of, past_of}
use Rattle.check_rules.proofs.Freezing.{goes_none, goes_some}
use Rattle.check_rules.proofs.freezer.goes_on_script.Goals as goal

pub returns-in-None : goal.returns-in-None
returns-in-None c =
    let m = c.args.past.now.machine in
    let past = journal_of c.args.past.now in
    goes_none (position_of m past c.args.i).waits (op_of m past c.args.i) (asked_now m (past_of c.args.past.now) c.args.i) (slice_get m.actors c.args.i)
    (sym c.in-None.is ∙ c.point_of.ensures)

pub returns-in-Some : goal.returns-in-Some
returns-in-Some c =
    let m = c.args.past.now.machine in
    let past = journal_of c.args.past.now in
    goes_some (position_of m past c.args.i).waits (op_of m past c.args.i) (asked_now m (past_of c.args.past.now) c.args.i) (slice_get m.actors c.args.i) c.goes_on.result c.in-Some.point
    (sym c.in-Some.is ∙ c.point_of.ensures)
    (subst (λ (f : Freezing). IsTrue c.goes_on.result ↔ ((f.frozen ≡ false) × ((f.asked && c.in-Some.point) ≡ false))) c.in_ok-freezing.ensures c.goes_on.ensures)
