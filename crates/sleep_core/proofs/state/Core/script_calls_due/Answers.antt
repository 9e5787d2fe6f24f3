-- Proof that `Core::script_calls_due` meets its contract.
use Rattle.std.proofs.Common.{◌≡◌, ◌∙◌, Some, length, slice_get, ap, sym, subst}
use Rattle.sleep_model.specs.Calls.{pieces_in}
use Rattle.sleep_model.specs.Positions.{position_at, positions}
use Rattle.sleep_state.specs.JournalRooms.{entries}
use Rattle.sleep_state.specs.TaskStates.{TaskState}
use Rattle.script_plan.specs.Plans.{calls_before}
use Rattle.sleep_core.specs.Cores.{CoreState}
use Rattle.sleep_core.proofs.Calling.{planned_calls}
use Rattle.sleep_core.proofs.state.Core.script_calls_due.Goals as goal

pub returns : goal.returns
returns c =
    let h = c.self.inside.history in
    let i = c.args.script in
    subst (λ (s : CoreState). c.calls_before.result ≡ calls_before (pieces_in s.machine i) (position_at (positions (length s.machine.actors) (entries s.past)) i).turns) c.self.view_is
    (planned_calls h.machine i (entries h.past) c.plan.result.now.script c.position-position.result c.calls_before.result
    (subst (λ (s : CoreState). slice_get s.machine.actors i ≡ Some c.plan.result.now.script) (sym c.self.view_is) c.plan.ensures) c.calls_before.ensures (c.position-position.ensures ∙ ap (λ (t : TaskState). position_at t.positions i) c.tasks.ensures))
