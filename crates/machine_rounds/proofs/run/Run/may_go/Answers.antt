-- Proof that `Run::may_go` meets its contract.
use Rattle.std.proofs.Common.{◌∙◌, Bool, length, sym, ap, subst}
use Rattle.std.specs.Bool.{OnTrue}
use Rattle.sleep_model.specs.Numbers.{time_of}
use Rattle.sleep_model.specs.Positions.{position_at, positions}
use Rattle.sleep_state.specs.JournalRooms.{entries}
use Rattle.sleep_state.specs.Sleepers.{is_stopped}
use Rattle.sleep_core.specs.Cores.{CoreState}
use Rattle.machine_rounds.specs.Runs.{IsQuiescent}
use Rattle.machine_rounds.proofs.Quiescent.{script_rests}
use Rattle.machine_rounds.proofs.run.Run.may_go.Goals as goal

pub returns-then-is_stopped : goal.returns-then-is_stopped
returns-then-is_stopped c =
    let s = c.args.self.now in
    let quiescent : IsQuiescent s = subst (λ (b : Bool). OnTrue b (IsQuiescent s)) c.if-quiescent.true c.requires.quiescent in
    sym (script_rests s c.core.ensures.kept quiescent c.args.word c.args.script c.requires.script
    (sym (ap (λ (x : CoreState). is_stopped (position_at (positions (length x.machine.actors) (entries x.past)) c.args.script) (time_of (entries x.past))) c.core.ensures.is) ∙ (sym c.is_stopped.ensures ∙ c.if-is_stopped.true)))
