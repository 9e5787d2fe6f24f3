-- Proof by hand of `freezes_script`: what it returns, by the lemmas of `Freezing`.
use Rattle.std.proofs.Common.{◌∙◌, ◌↔◌, IsTrue, slice_get, subst, sym}
use Rattle.sleep_model.specs.declared.progress.Freezing.{Freezing}
use Rattle.rule_definitions.specs.Freezer.{FreezesBy, asked_now}
use Rattle.rule_definitions.specs.Questions.{op_of, position_of}
use Rattle.check_past.specs.Passing.{journal_of, past_of}
use Rattle.check_rules.proofs.Freezing.{freezes_none, freezes_some}
use Rattle.check_rules.proofs.freezer.freezes_script.Goals as goal

pub returns-in-None : goal.returns-in-None
returns-in-None c =
    let m = c.args.past.now.machine in
    let past = journal_of c.args.past.now in
    freezes_none (position_of m past c.args.i).waits (op_of m past c.args.i) (asked_now m (past_of c.args.past.now) c.args.i) (slice_get m.actors c.args.i) c.args.kind c.freezes_not.result
    (sym c.in-None.is ∙ c.point_of.ensures) c.freezes_not.ensures

pub returns-in-Some : goal.returns-in-Some
returns-in-Some c =
    let m = c.args.past.now.machine in
    let past = journal_of c.args.past.now in
    freezes_some (position_of m past c.args.i).waits (op_of m past c.args.i) (asked_now m (past_of c.args.past.now) c.args.i) (slice_get m.actors c.args.i) c.args.kind c.freezes_by.result c.in-Some.point
    (sym c.in-Some.is ∙ c.point_of.ensures)
    (subst (λ (f : Freezing). IsTrue c.freezes_by.result ↔ FreezesBy f c.in-Some.point c.args.kind) c.in_ok-freezing.ensures c.freezes_by.ensures)
