-- Proof that `Run::waiting` meets its contract, and that its loop keeps its invariant.
use Rattle.std.proofs.Common.{◌≡◌, ◌+◌, ◌++◌, ◌∙◌, None, length, refl, sym, ap, subst, arith}
use Rattle.std.proofs.lemmas.List.{append-nil}
use Rattle.sleep_model.specs.declared.entry.Actor.TheVariants as actor
use Rattle.sleep_model.specs.Due.{due}
use Rattle.sleep_model.specs.Path.{maker}
use Rattle.sleep_state.specs.JournalRooms.{entries}
use Rattle.sleep_core.specs.Cores.{CoreState}
use Rattle.running_laws.proofs.Asked.{closes}
use Rattle.machine_rounds.specs.JobsOf.{job_at}
use Rattle.machine_rounds.specs.Runs.{RunState}
use Rattle.machine_rounds.proofs.Fields.{goes_on}
use Rattle.machine_rounds.proofs.Idling.{waits_go_on, waits_none}
use Rattle.machine_rounds.proofs.run.Run.waiting.Goals as goal

pub loop-script-preserved : goal.loop-script-preserved
loop-script-preserved c =
    let r = c.self.inside in
    let s = c.args.self.now in
    let count : c.len-script-end.result ≡ length s.machine.actors = subst (λ (s : RunState). c.len-script-end.result ≡ length s.machine.actors) c.self.view_is c.len-script-end.ensures in
    let closed : maker (entries s.journal) ≡ None = closes s.machine s.journal s.sources (job_at r.jobs) (goes_on r s c.self.view_is c.self.invariant) c.args.word c.requires.timeless c.requires.idle in
    waits_go_on s.machine (entries s.journal) c.args.word c.loop-script.script (c.loop-script.script + 1) c.loop-script.those.items c.push_waiting.new.those.items c.due-due.result
    closed (omega (arith, count)) refl
    (c.due-due.ensures ∙ ap (λ (x : CoreState). due x.machine (entries x.past) (actor.Script c.loop-script.script) c.args.word) c.core.ensures.is) c.in_ok-push_waiting.ensures c.loop-script.invariant

pub returns : goal.returns
returns c =
    let s = c.args.self.now in
    let count : c.len-script-end.result ≡ length s.machine.actors = subst (λ (s : RunState). c.len-script-end.result ≡ length s.machine.actors) c.self.view_is c.len-script-end.ensures in
    let none = waits_none s.machine (entries s.journal) c.args.word c.loop-script.script (omega (arith, count)) in
    sym (append-nil c.loop-script.those.items) ∙ (ap (λ xs. c.loop-script.those.items ++ xs) (sym none) ∙ c.loop-script.invariant)
