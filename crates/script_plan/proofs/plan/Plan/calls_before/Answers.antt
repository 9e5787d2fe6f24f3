-- Proof that `Plan::calls_before` meets its contract.
use Rattle.std.proofs.Common.{◌∙◌}
use Rattle.script_plan.proofs.plan.Plan.calls_before.Goals as goal

pub returns : goal.returns
returns c =
    rw (← c.self.view_is) (λ source. c.before_turn.ensures ∙ c.self.invariant.counts_are source c.args.turn)
