-- Proof by hand of `none_owes`: its loop, by the lemmas of `Quiet`.
use Rattle.std.proofs.Common.{◌∙◌}
use Rattle.sleep_model.specs.Sources.{history}
use Rattle.check_past.specs.Passing.{past_of}
use Rattle.check_rules.proofs.Quiet.{owes_next}
use Rattle.check_rules.proofs.jump.none_owes.Goals as goal

pub loop-s-preserved : goal.loop-s-preserved
loop-s-preserved c =
    c.without-none.ensures
    ∙ owes_next (λ s. history s (past_of c.args.past.now)) c.loop-s.s c.owes_steps.result c.loop-s.none c.owes_steps.ensures c.loop-s.invariant
