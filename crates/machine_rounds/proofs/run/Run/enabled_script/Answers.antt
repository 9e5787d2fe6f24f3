-- Proof that `Run::enabled_script` meets its contract.
use Rattle.std.proofs.Common.{Bool, length, subst}
use Rattle.std.specs.Bool.{OnTrue}
use Rattle.sleep_model.specs.Numbers.{time_of}
use Rattle.sleep_model.specs.Positions.{positions}
use Rattle.sleep_state.specs.JournalRooms.{entries}
use Rattle.sleep_state.specs.Sleepers.{AreStopped}
use Rattle.sleep_core.specs.Cores.{CoreState}
use Rattle.machine_rounds.specs.Runs.{IsQuiescent}
use Rattle.machine_rounds.proofs.Quiescent.{no_script}
use Rattle.machine_rounds.proofs.run.Run.enabled_script.Goals as goal

pub returns-then-are_stopped-clause-none : goal.returns-then-are_stopped-clause-none
returns-then-are_stopped-clause-none c =
    let s = c.args.self.now in
    let core = c.core.result.now in
    let quiescent : IsQuiescent s = subst (λ (b : Bool). OnTrue b (IsQuiescent s)) c.if-quiescent.true c.requires in
    let still : AreStopped (positions (length s.machine.actors) (entries s.journal)) (time_of (entries s.journal)) =
    subst (λ (x : CoreState). AreStopped (positions (length x.machine.actors) (entries x.past)) (time_of (entries x.past))) c.core.ensures.is
    (subst (λ (b : Bool). OnTrue b (AreStopped (positions (length core.machine.actors) (entries core.past)) (time_of (entries core.past)))) c.if-are_stopped.true c.are_stopped.ensures) in
    no_script s c.core.ensures.kept quiescent c.args.word still
