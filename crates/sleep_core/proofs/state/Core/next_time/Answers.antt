-- Proof that `Core::next_time` meets its contract.
use Rattle.std.proofs.Common.{◌≡◌, ◌∙◌, false, length, Option, Some, None, is_some, refl, sym, ap, ap₂, subst}
use Rattle.std.proofs.lemmas.Bool.{true≢false}
use Rattle.sleep_model.specs.declared.entry.Actor.{Actor}
use Rattle.sleep_model.specs.Autosleep.{naps_until}
use Rattle.sleep_model.specs.Legal.{journal_time, sooner}
use Rattle.sleep_model.specs.Path.{maker}
use Rattle.sleep_state.specs.JournalRooms.{entries}
use Rattle.sleep_state.specs.Sleepers.{earliest_end}
use Rattle.sleep_state.specs.TaskStates.{TaskState}
use Rattle.autosleep_loop.specs.Autosleeps.{AutosleepState}
use Rattle.sleep_core.specs.Cores.{CoreState}
use Rattle.sleep_core.proofs.Stopped.{closed_time}
use Rattle.sleep_core.proofs.state.Core.next_time.Goals as goal

none_there : (o : Option Actor) → is_some o ≡ false → o ≡ None
none_there None e = refl
none_there (Some w) e = absurd (true≢false e)

pub returns : goal.returns
returns c =
    let h = c.self.inside.history in
    let shut : is_some (maker (entries h.past)) ≡ false = subst (λ (s : CoreState). is_some (maker (entries s.past)) ≡ false) (sym c.self.view_is) (sym c.is_open.ensures ∙ c.if-is_open.false) in
    subst (λ (s : CoreState). c.sooner.result ≡ journal_time s.machine (entries s.past)) c.self.view_is
    (c.sooner.ensures
    ∙ (ap₂ sooner (c.naps_until-nap.ensures ∙ ap (λ (a : AutosleepState). naps_until a.work) c.autosleep.ensures)
    (c.least_end.ensures ∙ ap (λ (t : TaskState). earliest_end t.positions (length t.positions)) c.tasks.ensures)
    ∙ closed_time h.machine (entries h.past) c.self.invariant.core.legal (none_there (maker (entries h.past)) shut)))
