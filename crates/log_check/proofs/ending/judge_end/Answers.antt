-- Proof by hand of `judge_end`: what it returns, by the lemmas of `Ends`.
use Rattle.std.proofs.Common.{◌∙◌, refl, sym, true≢false}
use Rattle.std.proofs.lemmas.Result.{IfOk-weaker}
use Rattle.check_past.specs.Passing.{past_of}
use Rattle.log_check.proofs.Ends.{bad_end, bad_stats, is_good}
use Rattle.log_check.proofs.ending.judge_end.Goals as goal

pub returns-in-Some : goal.returns-in-Some
returns-in-Some c =
    IfOk-weaker c.bad.result _ _ (λ v is. bad_stats c.args.past.now.machine c.args.log.now (past_of c.args.past.now) c.requires.all c.requires.kept c.as_slice-logged.result.now c.as_slice-logged.ensures c.in_ok-source.field-0 c.in_ok-source.ensures
    c.in-Some.source c.len.result c.in_ok-lines.field-0 v c.in-Some.is c.len.ensures c.in_ok-lines.ensures is) c.bad.ensures

pub returns-then-branch : goal.returns-then-branch
returns-then-branch c =
    is_good c.args.past.now.machine c.args.log.now (past_of c.args.past.now) c.requires.all c.requires.kept c.as_slice-logged.result.now c.as_slice-logged.ensures c.in_ok-source.field-0 c.in_ok-source.ensures
    c.in_default.is (c.in_ok-ends_finished.ensures.0 c.if-branch.true)

pub returns-in_ok-lines-2 : goal.returns-in_ok-lines-2
returns-in_ok-lines-2 c =
    IfOk-weaker c.bad-else-branch.result _ _ (λ v is. bad_end c.args.past.now.machine c.args.log.now (past_of c.args.past.now) c.requires.all c.requires.kept c.as_slice-logged.result.now c.as_slice-logged.ensures c.in_ok-source.field-0
    c.in_ok-source.ensures c.in_default.is c.len-else-branch.result _ c.in_ok-lines-2.field-0 v c.len-else-branch.ensures refl c.in_ok-lines-2.ensures is
    (λ f. true≢false (sym (c.in_ok-ends_finished.ensures.1 f) ∙ c.if-branch.false))) c.bad-else-branch.ensures
