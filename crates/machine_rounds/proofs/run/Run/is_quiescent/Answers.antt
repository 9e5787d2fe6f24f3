-- Proof that `Run::is_quiescent` meets its contract.
use Rattle.std.proofs.Common.{◌≡◌, ◌∙◌, Bool, true, false, not, is_some, sym, ap, subst, refl}
use Rattle.std.specs.Bool.{OnTrue}
use Rattle.sleep_model.specs.Path.{maker}
use Rattle.sleep_state.specs.JournalRooms.{entries}
use Rattle.sleep_core.specs.Cores.{CoreState}
use Rattle.machine_rounds.specs.JobsOf.{OweNone}
use Rattle.machine_rounds.specs.Runs.{IsQuiescent}
use Rattle.machine_rounds.proofs.Quiescent.{quiescent_is}
use Rattle.machine_rounds.proofs.Fields.{goes_on, has_all}
use Rattle.machine_rounds.proofs.run.Run.is_quiescent.Goals as goal

where_not : (b : Bool) (P : Type 0) → (b ≡ false → P) → OnTrue (not b) P
where_not true P h = tt
where_not false P h = h refl

pub returns-then-owe_none : goal.returns-then-owe_none
returns-then-owe_none c =
    let r = c.self.inside in
    let s = c.args.self.now in
    let none : OweNone r.jobs = subst (λ (b : Bool). OnTrue b (OweNone r.jobs)) c.if-owe_none.true c.owe_none.ensures in
    where_not c.is_open.result (IsQuiescent s)
    (λ shut. quiescent_is s r.jobs (goes_on r s c.self.view_is c.self.invariant) (has_all r s c.self.view_is c.self.invariant) none
    (sym (ap (λ (x : CoreState). is_some (maker (entries x.past))) c.core.ensures.is) ∙ (sym c.is_open.ensures ∙ shut)))
