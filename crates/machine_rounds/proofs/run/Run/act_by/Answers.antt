-- Proof that `Run::act_by` meets what `next`, `call` and `turn_by` require.
use Rattle.std.proofs.Common.{◌≡◌, ◌⊎◌, inl, inr, ◌||◌, Bool, true, false, nat_lt, subst, ◌∙◌, refl, arith}
use Rattle.std.proofs.lemmas.Bool.Decides.{nat_tests}
use Rattle.sleep_model.specs.declared.log.Want.TheVariants.{Core, Nothing}
use Rattle.sleep_model.specs.Calls.{calls_due}
use Rattle.sleep_model.specs.Due.{due}
use Rattle.sleep_model.specs.Legal.{is_made}
use Rattle.sleep_state.specs.JournalRooms.{entries}
use Rattle.sleep_script.specs.Jobs.{IsWanted}
use Rattle.sleep_script.proofs.Following.{wanted_source, wanted_core, wanted_nothing}
use Rattle.running_laws.specs.Running.{calls_made}
use Rattle.running_laws.proofs.Invariant.{enabled_is}
use Rattle.machine_rounds.specs.JobsOf.{job_at}
use Rattle.machine_rounds.proofs.Fields.{goes_on, has_all}
use Rattle.machine_rounds.proofs.JobsChanged.{has_job}
use Rattle.machine_rounds.proofs.run.Run.act_by.Goals as goal

pub next-requires : goal.next-requires
next-requires g c =
    let r = c.self.inside in
    let s = c.args.self.now in
    has_job s.machine r.jobs c.args.who (has_all r s c.self.view_is c.self.invariant) c.requires.can.0

pub call-requires-clause-next : goal.call-requires-clause-next
call-requires-clause-next g c =
    let r = c.self.inside in
    let s = c.args.self.now in
    let job = (goes_on r s c.self.view_is c.self.invariant).jobs_are c.args.who c.requires.can.0 in
    (wanted_source s.machine c.args.who (entries s.journal) (calls_made s.machine s.sources c.args.who) (job_at r.jobs c.args.who) c.in-Source.source c.in-Source.call job
    (subst (IsWanted (job_at r.jobs c.args.who)) c.in-Source.is c.next.ensures)).0

pub turn_by-requires-clause-calls : goal.turn_by-requires-clause-calls
turn_by-requires-clause-calls g c = by c.in-Core.is
  where
    by : (c.next.result ≡ Core) ⊎ (c.next.result ≡ Nothing) → calls_made c.args.self.now.machine c.args.self.now.sources c.args.who ≡ calls_due c.args.self.now.machine c.args.who (entries c.args.self.now.journal)
    by (inl is) =
        let r = c.self.inside in
        let s = c.args.self.now in
        let job = (goes_on r s c.self.view_is c.self.invariant).jobs_are c.args.who c.requires.can.0 in
        wanted_core s.machine c.args.who (entries s.journal) (calls_made s.machine s.sources c.args.who) (job_at r.jobs c.args.who) job (subst (IsWanted (job_at r.jobs c.args.who)) is c.next.ensures)
    by (inr is) =
        let r = c.self.inside in
        let s = c.args.self.now in
        let job = (goes_on r s c.self.view_is c.self.invariant).jobs_are c.args.who c.requires.can.0 in
        (wanted_nothing s.machine c.args.who (entries s.journal) (calls_made s.machine s.sources c.args.who) (job_at r.jobs c.args.who) job (subst (IsWanted (job_at r.jobs c.args.who)) is c.next.ensures)).0

or_second : (a b : Bool) → a ≡ false → (a || b) ≡ true → b ≡ true
or_second true b e h = absurd (cc)
or_second false b e h = h

pub turn_by-requires-clause-due : goal.turn_by-requires-clause-due
turn_by-requires-clause-due g c =
    let r = c.self.inside in
    let s = c.args.self.now in
    let run = goes_on r s c.self.view_is c.self.invariant in
    let all = turn_by-requires-clause-calls g c in
    let none : nat_lt (calls_made s.machine s.sources c.args.who) (calls_due s.machine c.args.who (entries s.journal)) ≡ false = grind (arith, nat_tests, all) in
    or_second (nat_lt (calls_made s.machine s.sources c.args.who) (calls_due s.machine c.args.who (entries s.journal))) (is_made (due s.machine (entries s.journal) c.args.who c.args.word)) none
    (enabled_is s.machine s.journal s.sources (job_at r.jobs) run c.args.word c.args.who (calls_made s.machine s.sources c.args.who) refl ∙ c.requires.can.1)
