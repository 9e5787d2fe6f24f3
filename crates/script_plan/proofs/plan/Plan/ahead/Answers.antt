-- Proof that `Plan::ahead` meets its contract.
use Rattle.std.proofs.Common.{◌∙◌, ◌-◌}
use Rattle.sleep_model.specs.Scripts.{pieces}
use Rattle.script_plan.proofs.CallsPlanned.{ahead_is}
use Rattle.script_plan.proofs.plan.Plan.ahead.Goals as goal

pub returns-else-turn-eq0 : goal.returns-else-turn-eq0
returns-else-turn-eq0 c =
    let p = c.self.inside in
    rw (← c.self.view_is) (ahead_is (pieces p.autosleep p.script.now) c.args.turn _ c.if-turn-eq0.false
    (c.before_turn.ensures ∙ c.self.invariant.counts_are p.autosleep (c.args.turn - 1)))
