-- Proof that `Run::turn` keeps the invariant of its type, and that it meets what `told_core` requires.
use Rattle.std.proofs.Common.{◌≡◌, ◌∙◌, List, ◌∷◌, length, true, Ok, sym, ap, subst, arith}
use Rattle.sleep_model.specs.declared.entry.Actor.{Actor}
use Rattle.sleep_model.specs.declared.entry.JournalEntry.{JournalEntry}
use Rattle.sleep_model.specs.Calls.{calls_due}
use Rattle.sleep_model.specs.Fits.{is_word64}
use Rattle.sleep_model.specs.Numbers.{time_of}
use Rattle.sleep_model.specs.Path.{attempts}
use Rattle.sleep_state.specs.JournalRooms.{entries}
use Rattle.sleep_core.specs.declared.turns.CoreTurn.{CoreTurn}
use Rattle.sleep_core.specs.Cores.{CoreState, IsActor, made_entry}
use Rattle.sleep_core.specs.Turned.{AfterTurn}
use Rattle.sleep_script.specs.Jobs.{after_turn}
use Rattle.running_laws.specs.Running.{IsRunning, calls_made}
use Rattle.running_laws.proofs.Turns.{running_turn}
use Rattle.machine_rounds.specs.declared.run.Run.TheInside.{Inside}
use Rattle.machine_rounds.specs.JobsOf.{AreAllJobs, JobsState, job_at, with_job}
use Rattle.run_objects.specs.Objects.{sources_of}
use Rattle.machine_rounds.specs.RunFields.{state}
use Rattle.machine_rounds.specs.Runs.{RunState}
use Rattle.machine_rounds.proofs.JobsChanged.{all_jobs_with, jobs_with}
use Rattle.machine_rounds.proofs.Turning.{few_turns, legal_after, looked_machine, looked_running, looked_seats, looked_table}
use Rattle.machine_rounds.proofs.run.Run.turn.Goals as goal

actor : (r : Inside) (s : RunState) → state r ≡ s → (who : Actor) → IsActor s.machine who → IsActor r.machine.now who
actor r s same who h = subst (λ (x : RunState). IsActor x.machine who) (sym same) h

own : (r : Inside) (s : RunState) → state r ≡ s → (who : Actor) → calls_made s.machine s.sources who ≡ calls_due s.machine who (entries s.journal)
    → calls_made r.machine.now (sources_of r.sources.items) who ≡ calls_due r.machine.now who (entries r.seated.core.past)
own r s same who h = subst (λ (x : RunState). calls_made x.machine x.sources who ≡ calls_due x.machine who (entries x.journal)) (sym same) h

pub told_core-requires-clause-few : goal.told_core-requires-clause-few
told_core-requires-clause-few g c =
    let r = c.self.inside in
    omega (
      arith,
      few_turns r c.self.invariant c.args.who (actor r c.args.self.now c.self.view_is c.args.who c.requires.actor),
      c.len-made.ensures.small,
      ap (λ (x : CoreState). length x.past) c.core.ensures.is,
      ap (λ (x : RunState). length x.journal) c.self.view_is,
    )

pub invariant_of-self-in-Did : goal.invariant_of-self-in-Did
invariant_of-self-in-Did g c =
    let r = c.self.inside in
    let k = c.self.invariant in
    let m = r.machine.now in
    let journal = r.seated.core.past in
    let sources = sources_of r.sources.items in
    let who = c.args.who in
    let t = c.in_ok-turn.ensures.turn in
    let kind = c.in-Did.kind in
    let new = c.turn.new.self in
    let did = subst (λ (x : CoreTurn). AfterTurn r.seated.core new.core who t.0 r.floor (Ok x)) c.in-Did.is t.3 in
    let e : JournalEntry = made_entry journal who t.0 r.floor kind in
    let a = actor r c.args.self.now c.self.view_is who c.requires.actor in
    let made = own r c.args.self.now c.self.view_is who c.requires.calls in
    let past : new.core.past ≡ e ∷ journal = ap (λ (x : CoreState). x.past) did.1 in
    let job = after_turn c.in-Did.stamp kind c.in-Did.attempt (job_at r.jobs who) in
    let timed : is_word64 (time_of (entries journal)) ≡ true =
    ap is_word64 (ap (λ (x : RunState). time_of (entries x.journal)) c.self.view_is ∙ (sym (ap (λ (x : CoreState). time_of (entries x.past)) c.core-2.ensures.is) ∙ sym c.time-time.ensures.time)) ∙ c.moments_are_ranged.ensures in
    record {
      machine_is = ap (λ (x : CoreState). x.machine) did.1 ∙ k.machine_is;
      running =
          subst (λ (p : List JournalEntry). IsRunning m p sources (job_at c.told_core.new.self) c.in-Did.stamp) (sym past)
          (subst (λ (j : JobsState). IsRunning m (e ∷ journal) sources (job_at j) c.in-Did.stamp) (sym c.told_core.ensures)
          (running_turn m journal sources (job_at r.jobs) k.running who t.0 kind a made t.1 t.2 (legal_after r k new.core e did.1 c.in_ok-turn.ensures.legal)
          (job_at (with_job r.jobs who job)) c.in-Did.stamp c.in-Did.attempt did.2 (did.3 ∙ ap (λ (p : List JournalEntry). attempts (entries p)) past)
          (jobs_with m r.jobs who job k.all_jobs a) timed c.kinds_are_ranged.ensures));
      all_jobs = subst (AreAllJobs m) (sym c.told_core.ensures) (all_jobs_with m r.jobs who job k.all_jobs);
      table = looked_table r k new c.in_ok-turn.ensures.table;
      seats = looked_seats r k new c.in_ok-turn.ensures.table c.in_ok-turn.ensures.sources;
    }

pub invariant_of-self-in-NotYet : goal.invariant_of-self-in-NotYet
invariant_of-self-in-NotYet g c =
    let r = c.self.inside in
    let k = c.self.invariant in
    let new = c.turn.new.self in
    let t = c.in_ok-turn.ensures.turn in
    let did = subst (λ (x : CoreTurn). AfterTurn r.seated.core new.core c.args.who t.0 r.floor (Ok x)) c.in-NotYet.is t.3 in
    record {
      machine_is = looked_machine r k new did.1;
      running = looked_running r k new did.1;
      all_jobs = k.all_jobs;
      table = looked_table r k new c.in_ok-turn.ensures.table;
      seats = looked_seats r k new c.in_ok-turn.ensures.table c.in_ok-turn.ensures.sources;
    }

pub invariant_of-self-in-Done : goal.invariant_of-self-in-Done
invariant_of-self-in-Done g c =
    let r = c.self.inside in
    let k = c.self.invariant in
    let new = c.turn.new.self in
    let t = c.in_ok-turn.ensures.turn in
    let did = subst (λ (x : CoreTurn). AfterTurn r.seated.core new.core c.args.who t.0 r.floor (Ok x)) c.in-Done.is t.3 in
    record {
      machine_is = looked_machine r k new did.1;
      running = looked_running r k new did.1;
      all_jobs = k.all_jobs;
      table = looked_table r k new c.in_ok-turn.ensures.table;
      seats = looked_seats r k new c.in_ok-turn.ensures.table c.in_ok-turn.ensures.sources;
    }

pub invariant_of-self : goal.invariant_of-self
invariant_of-self g c =
    let r = c.self.inside in
    let k = c.self.invariant in
    let new = c.turn.new.self in
    let same : new.core ≡ r.seated.core = c.in_err-turn.ensures.turn.3.2 in
    record {
      machine_is = looked_machine r k new same;
      running = looked_running r k new same;
      all_jobs = k.all_jobs;
      table = looked_table r k new c.in_err-turn.ensures.table;
      seats = looked_seats r k new c.in_err-turn.ensures.table c.in_err-turn.ensures.sources;
    }
