-- Proof that `Run::due_at` meets its contract.
use Rattle.std.proofs.Common.{◌≤◌, ◌∙◌, length, sym, ap, subst}
use Rattle.sleep_model.specs.Sources.{expiry}
use Rattle.wakeup_source.specs.SourceStates.{SourceState, unstamped_source}
use Rattle.running_laws.specs.Running.{histories}
use Rattle.machine_rounds.specs.Runs.{RunState}
use Rattle.machine_rounds.proofs.Calling.{history_is}
use Rattle.machine_rounds.proofs.run.Run.due_at.Goals as goal

pub returns : goal.returns
returns c =
    let r = c.self.inside in
    let there = subst (λ (x : RunState). c.args.source ≤ length x.machine.sources) (sym c.self.view_is) c.requires in
    c.due.ensures.due
    ∙ (ap (λ (x : SourceState). expiry (unstamped_source x.past)) c.source.ensures.is
    ∙ (ap expiry (sym (history_is r c.self.invariant c.args.source there c.index-one.result.now c.index-one.ensures))
    ∙ ap (λ (x : RunState). expiry (histories x.sources c.args.source)) c.self.view_is))
