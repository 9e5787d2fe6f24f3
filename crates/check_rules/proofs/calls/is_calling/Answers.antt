-- Proof by hand of `is_calling`: its loop, by the lemmas of `Sourcing`.
use Rattle.std.proofs.Common.{◌∙◌}
use Rattle.sleep_model.specs.Sources.{history}
use Rattle.check_past.specs.Passing.{past_of}
use Rattle.check_rules.proofs.Sourcing.{calling_next}
use Rattle.check_rules.proofs.calls.is_calling.Goals as goal

pub loop-s-preserved : goal.loop-s-preserved
loop-s-preserved c =
    c.either-calling.ensures
    ∙ calling_next (λ s. history s (past_of c.args.past.now)) c.args.who c.loop-s.s c.is_inside.result c.loop-s.calling c.is_inside.ensures c.loop-s.invariant
