-- Proof that `Run::enabled_device` meets its contract.
use Rattle.std.proofs.Common.{Bool, subst}
use Rattle.std.specs.Bool.{OnTrue}
use Rattle.machine_rounds.specs.JobsOf.{job_at}
use Rattle.machine_rounds.specs.Runs.{IsQuiescent}
use Rattle.machine_rounds.proofs.Quiescent.{no_device}
use Rattle.machine_rounds.proofs.Fields.{goes_on}
use Rattle.machine_rounds.proofs.run.Run.enabled_device.Goals as goal

pub returns-then-quiescent-clause-none : goal.returns-then-quiescent-clause-none
returns-then-quiescent-clause-none c =
    let r = c.self.inside in
    let s = c.args.self.now in
    let quiescent : IsQuiescent s = subst (λ (b : Bool). OnTrue b (IsQuiescent s)) c.if-quiescent.true c.requires in
    no_device s (record { jobs = job_at r.jobs; running = goes_on r s c.self.view_is c.self.invariant }) quiescent c.args.word
