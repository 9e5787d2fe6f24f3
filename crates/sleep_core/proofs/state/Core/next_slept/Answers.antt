-- Proof that `Core::next_slept` meets its contract.
use Rattle.std.proofs.Common.{◌∙◌, ℕ, length, ap, sym, subst, arith}
use Rattle.sleep_model.specs.Numbers.{time_of}
use Rattle.sleep_model.specs.Positions.{positions}
use Rattle.sleep_state.specs.JournalRooms.{entries}
use Rattle.sleep_state.specs.Sleepers.{NoneSlept}
use Rattle.sleep_state.specs.TaskStates.{TaskState}
use Rattle.sleep_core.specs.Cores.{CoreState}
use Rattle.sleep_core.proofs.Positioned.{positions_len}
use Rattle.sleep_core.proofs.state.Core.next_slept.Goals as goal

pub returns-clause-none : goal.returns-clause-none
returns-clause-none c first none =
    let h = c.self.inside.history in
    let same = c.self.view_is in
    subst (λ (s : CoreState). NoneSlept (positions (length s.machine.actors) (entries s.past)) (time_of (entries s.past))) same
    (subst (λ (t : ℕ). NoneSlept (positions (length h.machine.actors) (entries h.past)) t) (c.time_ms.ensures.is ∙ ap (λ (s : CoreState). time_of (entries s.past)) (sym same))
    (subst (λ (t : TaskState). NoneSlept t.positions c.time_ms.result) c.tasks.ensures
    (c.next_slept.ensures.none first none
    (omega (arith, ap (λ (t : TaskState). length t.positions) c.tasks.ensures, positions_len (length h.machine.actors) (entries h.past), ap (λ (s : CoreState). length s.machine.actors) same, c.scripts-scripts.ensures, c.scripts-scripts.type_inv)))))
