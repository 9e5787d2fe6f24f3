-- Proof that `Plan::operation` meets its contract.
use Rattle.std.proofs.Common.{◌∙◌, sym}
use Rattle.script_plan.proofs.Planned.{operation_at, no_operation}
use Rattle.script_plan.proofs.plan.Plan.operation.Goals as goal

pub returns-in_err-at : goal.returns-in_err-at
returns-in_err-at c =
    rw (← c.self.view_is, c.from_residual.ensures) (sym (no_operation c.self.inside.script.now c.deref.result.now c.args.number (c.deref.ensures.value ∙ c.self.invariant.entry_places_are) c.in_err-at.ensures.lookup.3))

pub returns : goal.returns
returns c =
    let l = c.in_ok-at.ensures.lookup in
    rw (← c.self.view_is, c.op_at.ensures, c.as_slice-steps.ensures) (sym (operation_at c.self.inside.script.now c.deref.result.now c.args.number c.in_ok-at.field-0.now (c.deref.ensures.value ∙ c.self.invariant.entry_places_are) l.3.0 l.1))
