-- Proof that `Run::call_try` meets what `next` and `call` require.
use Rattle.std.proofs.Common.{subst}
use Rattle.sleep_state.specs.JournalRooms.{entries}
use Rattle.sleep_script.specs.Jobs.{IsWanted}
use Rattle.sleep_script.proofs.Following.{wanted_source}
use Rattle.running_laws.specs.Running.{calls_made}
use Rattle.machine_rounds.specs.JobsOf.{job_at}
use Rattle.machine_rounds.proofs.Fields.{goes_on, has_all}
use Rattle.machine_rounds.proofs.JobsChanged.{has_job}
use Rattle.machine_rounds.proofs.run.Run.call_try.Goals as goal

pub next-requires : goal.next-requires
next-requires g c =
    let r = c.self.inside in
    let s = c.args.self.now in
    has_job s.machine r.jobs c.args.who (has_all r s c.self.view_is c.self.invariant) c.requires

pub call-requires-clause-next : goal.call-requires-clause-next
call-requires-clause-next g c =
    let r = c.self.inside in
    let s = c.args.self.now in
    let job = (goes_on r s c.self.view_is c.self.invariant).jobs_are c.args.who c.requires in
    (wanted_source s.machine c.args.who (entries s.journal) (calls_made s.machine s.sources c.args.who) (job_at r.jobs c.args.who) c.in-Source.source c.in-Source.call job
    (subst (IsWanted (job_at r.jobs c.args.who)) c.in-Source.is c.next.ensures)).0
