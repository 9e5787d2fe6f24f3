-- Proof that `Run::is_enabled` meets its contract.
use Rattle.std.proofs.Common.{◌∙◌, ◌||◌, nat_lt, ap}
use Rattle.sleep_model.specs.Calls.{calls_due}
use Rattle.sleep_model.specs.Due.{due}
use Rattle.sleep_model.specs.Legal.{is_made}
use Rattle.sleep_state.specs.JournalRooms.{entries}
use Rattle.sleep_core.specs.Cores.{CoreState}
use Rattle.running_laws.proofs.Invariant.{enabled_is}
use Rattle.machine_rounds.specs.JobsOf.{job_at}
use Rattle.machine_rounds.proofs.Fields.{goes_on}
use Rattle.machine_rounds.proofs.run.Run.is_enabled.Goals as goal

pub returns : goal.returns
returns c =
    let r = c.self.inside in
    let s = c.args.self.now in
    let run = goes_on r s c.self.view_is c.self.invariant in
    c.enabled.ensures
    ∙ (ap (λ (x : CoreState). nat_lt c.calls-calls.result (calls_due x.machine c.args.who (entries x.past)) || is_made (due x.machine (entries x.past) c.args.who c.args.word)) c.core.ensures.is
    ∙ enabled_is s.machine s.journal s.sources (job_at r.jobs) run c.args.word c.args.who c.calls-calls.result (c.calls-calls.ensures ∙ (run.jobs_are c.args.who c.requires).calls_are))
