-- Proof that `Run::has_called` meets its contract, and what `next` requires.
use Rattle.std.proofs.Common.{subst}
use Rattle.sleep_state.specs.JournalRooms.{entries}
use Rattle.sleep_script.specs.Jobs.{IsWanted}
use Rattle.sleep_script.proofs.Following.{wanted_core}
use Rattle.running_laws.specs.Running.{calls_made}
use Rattle.machine_rounds.specs.JobsOf.{job_at}
use Rattle.machine_rounds.proofs.Fields.{goes_on, has_all}
use Rattle.machine_rounds.proofs.JobsChanged.{has_job}
use Rattle.machine_rounds.proofs.run.Run.has_called.Goals as goal

pub next-requires : goal.next-requires
next-requires g =
    let r = g.self.inside in
    let s = g.args.self.now in
    has_job s.machine r.jobs g.args.who (has_all r s g.self.view_is g.self.invariant) g.requires

pub returns-in-Core : goal.returns-in-Core
returns-in-Core g =
    let r = g.self.inside in
    let s = g.args.self.now in
    let who = g.args.who in
    let job = (goes_on r s g.self.view_is g.self.invariant).jobs_are who g.requires in
    wanted_core s.machine who (entries s.journal) (calls_made s.machine s.sources who) (job_at r.jobs who) job
    (subst (IsWanted (job_at r.jobs who)) g.in-Core.is g.next.ensures)
