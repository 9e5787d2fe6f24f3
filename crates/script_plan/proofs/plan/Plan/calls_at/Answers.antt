-- Proof that `Plan::calls_at` meets its contract, and that it meets what `calls_between` requires.
use Rattle.std.proofs.Common.{◌≡◌, ◌∙◌, sym, subst}
use Rattle.sleep_model.specs.Scripts.{pieces}
use Rattle.script_plan.specs.CallPlans.{ScriptCalls, calls_ahead}
use Rattle.script_plan.proofs.CallsPlanned.{in_order, within, stretch}
use Rattle.script_plan.proofs.plan.Plan.calls_at.Goals as goal

pub calls_between-requires-clause-in_order : goal.calls_between-requires-clause-in_order
calls_between-requires-clause-in_order c =
    let p = c.self.inside in
    let from = subst (λ (v : ScriptCalls). c.ahead-from.result ≡ calls_ahead (pieces v.source v.script) c.args.turn) (sym c.self.view_is) c.ahead-from.ensures in
    in_order p.autosleep p.script.now c.deref.result.now (c.deref.ensures.value ∙ c.self.invariant.calls_are) c.args.turn _ _ from
    (c.before_turn-to.ensures ∙ c.self.invariant.counts_are p.autosleep c.args.turn)

pub calls_between-requires-clause-within : goal.calls_between-requires-clause-within
calls_between-requires-clause-within c =
    let p = c.self.inside in
    within p.autosleep p.script.now c.deref.result.now (c.deref.ensures.value ∙ c.self.invariant.calls_are) c.args.turn _
    (c.before_turn-to.ensures ∙ c.self.invariant.counts_are p.autosleep c.args.turn)

pub returns : goal.returns
returns c =
    let p = c.self.inside in
    let from = subst (λ (v : ScriptCalls). c.ahead-from.result ≡ calls_ahead (pieces v.source v.script) c.args.turn) (sym c.self.view_is) c.ahead-from.ensures in
    rw (← c.self.view_is, c.calls_between.ensures) (stretch p.autosleep p.script.now c.deref.result.now (c.deref.ensures.value ∙ c.self.invariant.calls_are) c.args.turn _ _ from
    (c.before_turn-to.ensures ∙ c.self.invariant.counts_are p.autosleep c.args.turn))
