-- Proof that `Run::may_work` meets its contract.
use Rattle.std.proofs.Common.{◌≡◌, Bool, false, sym, subst}
use Rattle.std.specs.Bool.{OnTrue}
use Rattle.sleep_model.specs.declared.progress.Work.TheVariants.{Resting}
use Rattle.sleep_model.specs.Autosleep.{is_queued, work}
use Rattle.sleep_state.specs.JournalRooms.{entries}
use Rattle.sleep_core.specs.Cores.{CoreState}
use Rattle.machine_rounds.specs.Runs.{IsQuiescent}
use Rattle.machine_rounds.proofs.Quiescent.{work_rests}
use Rattle.machine_rounds.proofs.run.Run.may_work.Goals as goal

pub returns-then-is_unqueued : goal.returns-then-is_unqueued
returns-then-is_unqueued c =
    let s = c.args.self.now in
    let core = c.core.result.now in
    let quiescent : IsQuiescent s = subst (λ (b : Bool). OnTrue b (IsQuiescent s)) c.if-quiescent.true c.requires in
    let still : (work (entries s.journal) ≡ Resting) × (is_queued (entries s.journal) ≡ false) =
    subst (λ (x : CoreState). (work (entries x.past) ≡ Resting) × (is_queued (entries x.past) ≡ false)) c.core.ensures.is
    (subst (λ (b : Bool). OnTrue b ((work (entries core.past) ≡ Resting) × (is_queued (entries core.past) ≡ false))) c.if-is_unqueued.true c.is_unqueued.ensures) in
    sym (work_rests s c.core.ensures.kept quiescent c.args.word still.0 still.1)
