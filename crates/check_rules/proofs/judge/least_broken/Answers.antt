-- Proof by hand of `least_broken`: what it returns and its loop, by the lemmas of `Judging`.
use Rattle.std.proofs.Common.{sym}
use Rattle.check_past.specs.Passing.{past_of}
use Rattle.check_rules.specs.Judging.{rule_meant}
use Rattle.check_rules.proofs.Judging.{below_more, breaks}
use Rattle.check_rules.proofs.judge.least_broken.Goals as goal

pub returns-then-not-branch : goal.returns-then-not-branch
returns-then-not-branch c = (
  rule_meant c.rule_at-rule.result,
  (
    sym c.rule_number.ensures,
    breaks c.args.past.now.machine (past_of c.args.past.now) c.args.e c.loop-place.place c.in_ok-keeps.field-0 (rule_meant c.rule_at-rule.result)
        c.rule_at-rule.ensures c.in_ok-keeps.ensures c.if-not-branch.true c.loop-place.invariant,
  ),
)

pub loop-place-preserved : goal.loop-place-preserved
loop-place-preserved c =
    below_more c.args.past.now.machine (past_of c.args.past.now) c.args.e c.loop-place.place c.in_ok-keeps.field-0 (rule_meant c.rule_at-rule.result)
    c.rule_at-rule.ensures c.in_ok-keeps.ensures c.if-not-branch.false c.loop-place.invariant
