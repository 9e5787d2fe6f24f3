-- Proof that `Run::call` meets its contract, and that it keeps the invariant of its type, and that it meets what `index_mut`, `call` and
-- `told_source` require.
use Rattle.std.proofs.Common.{◌≡◌, ◌≤◌, ◌<◌, ◌+◌, ◌^◌, ◌∙◌, ℕ, List, length, slice_set, refl, sym, ap, subst, arith, Err}
use Rattle.std.proofs.lemmas.List.{length-map}
use Rattle.sleep_model.specs.declared.entry.Actor.{Actor}
use Rattle.sleep_model.specs.declared.machine.SourceCall.{SourceCall}
use Rattle.sleep_model.specs.Numbers.{time_of}
use Rattle.sleep_model.specs.Sources.{most_entries}
use Rattle.sleep_state.specs.JournalRooms.{entries}
use Rattle.sleep_core.specs.Cores.{CoreState, IsActor}
use Rattle.sleep_script.specs.Jobs.{after_call}
use Rattle.wakeup_source.specs.declared.call_by.CallBy.{CallBy}
use Rattle.wakeup_source.specs.SourceStates.{SourceState}
use Rattle.run_objects.specs.Objects.{SeatedSourceState, viewed_source_of, sources_of}
use Rattle.running_laws.specs.Running.{CallsNext, IsRunning, of_sources}
use Rattle.running_laws.proofs.Asked.{call_is, call_left, call_may, call_there}
use Rattle.running_laws.proofs.Calls.{IsCalledNow, running_call}
use Rattle.running_laws.proofs.Invariant.{actor_told}
use Rattle.running_laws.proofs.Rising.{call_longer}
use Rattle.machine_rounds.specs.declared.run.Run.TheInside.{Inside}
use Rattle.world_workers.specs.declared.fault.RunFault.TheVariants as fault
use Rattle.machine_rounds.specs.JobsOf.{AreAllJobs, JobsState, job_at, with_job}
use Rattle.machine_rounds.specs.RunFields.{RunFieldsInvariant, state}
use Rattle.machine_rounds.specs.Runs.{RunState, entries_made}
use Rattle.machine_rounds.proofs.Calling.{at_table, more_entries, not_later, old_is, put_running, put_seats, refused, refused_put, wanted, within}
use Rattle.machine_rounds.proofs.JobsChanged.{all_jobs_with, has_job, jobs_with}
use Rattle.machine_rounds.proofs.SeatedSources.{seats_set, sources_set}
use Rattle.machine_rounds.proofs.run.Run.call.Goals as goal

next : (r : Inside) (s : RunState) → state r ≡ s → (who : Actor) (source : ℕ) (call : SourceCall) → CallsNext s.machine s.journal s.sources who source call → CallsNext r.machine.now r.seated.core.past (sources_of r.sources.items) who source call
next r s same who source call h = subst (λ (x : RunState). CallsNext x.machine x.journal x.sources who source call) (sym same) h

actor : (r : Inside) (s : RunState) → state r ≡ s → (who : Actor) → IsActor s.machine who → IsActor r.machine.now who
actor r s same who h = subst (λ (x : RunState). IsActor x.machine who) (sym same) h

there : (r : Inside) → RunFieldsInvariant r → (s : RunState) → state r ≡ s → (who : Actor) (source : ℕ) (call : SourceCall) → CallsNext s.machine s.journal s.sources who source call → source ≤ length r.machine.now.sources
there r k s same who source call h = call_there r.machine.now r.seated.core.past (sources_of r.sources.items) (job_at r.jobs) k.running who source call (next r s same who source call h)

left : (r : Inside) → RunFieldsInvariant r → (s : RunState) → state r ≡ s → (who : Actor) (source : ℕ) (call : SourceCall) → IsActor s.machine who → CallsNext s.machine s.journal s.sources who source call
    → (0 < length (job_at r.jobs who).pending) × ((job_at r.jobs who).calls + 1 < 2 ^ 32)
left r k s same who source call a h =
    call_left r.machine.now r.seated.core.past (sources_of r.sources.items) (job_at r.jobs) k.running who source call (actor r s same who a) (next r s same who source call h)

time : (r : Inside) (s : RunState) → state r ≡ s → (core : CoreState) (at : ℕ) → core ≡ record { machine = s.machine; past = s.journal } → at ≡ time_of (entries core.past) → at ≡ time_of (entries r.seated.core.past)
time r s same core at is now = now ∙ (ap (λ (x : CoreState). time_of (entries x.past)) is ∙ sym (ap (λ (x : RunState). time_of (entries x.journal)) same))

pub index_mut-one-requires : goal.index_mut-one-requires
index_mut-one-requires g c =
    let r = c.self.inside in
    let k = c.self.invariant in
    let t = there r k c.args.self.now c.self.view_is c.args.who c.args.source c.args.call c.requires.next in
    omega (arith, t, k.running.sources_are.count, length-map r.sources.items (λ (x : SeatedSourceState). x.source), r.sources.ok)

pub call-requires-clause-time : goal.call-requires-clause-time
call-requires-clause-time g c =
    let r = c.self.inside in
    let k = c.self.invariant in
    let t = there r k c.args.self.now c.self.view_is c.args.who c.args.source c.args.call c.requires.next in
    not_later r k c.args.source t c.index_mut-one.result.now c.index_mut-one.ensures.value c.time.result (time r c.args.self.now c.self.view_is c.core.result.now c.time.result c.core.ensures.is c.time.ensures.time)

pub call-requires-clause-may : goal.call-requires-clause-may
call-requires-clause-may g c =
    let r = c.self.inside in
    call_may r.machine.now r.seated.core.past (sources_of r.sources.items) (job_at r.jobs) c.self.invariant.running c.args.who c.args.source c.args.call
    (next r c.args.self.now c.self.view_is c.args.who c.args.source c.args.call c.requires.next) _ c.time.result

pub call-requires-clause-table : goal.call-requires-clause-table
call-requires-clause-table g c =
    let r = c.self.inside in
    let k = c.self.invariant in
    let t = there r k c.args.self.now c.self.view_is c.args.who c.args.source c.args.call c.requires.next in
    at_table r k c.args.source t c.index_mut-one.result.now c.index_mut-one.ensures.value

pub told_source-requires-clause-job : goal.told_source-requires-clause-job
told_source-requires-clause-job g c =
    let r = c.self.inside in
    has_job r.machine.now r.jobs c.args.who c.self.invariant.all_jobs (actor r c.args.self.now c.self.view_is c.args.who c.requires.actor)

pub told_source-requires-clause-left : goal.told_source-requires-clause-left
told_source-requires-clause-left g c = (left c.self.inside c.self.invariant c.args.self.now c.self.view_is c.args.who c.args.source c.args.call c.requires.actor c.requires.next).0

pub told_source-requires-clause-few : goal.told_source-requires-clause-few
told_source-requires-clause-few g c = (left c.self.inside c.self.invariant c.args.self.now c.self.view_is c.args.who c.args.source c.args.call c.requires.actor c.requires.next).1

pub invariant_of-self : goal.invariant_of-self
invariant_of-self g c =
    let r = c.self.inside in
    let k = c.self.invariant in
    let m = r.machine.now in
    let journal = r.seated.core.past in
    let sources = sources_of r.sources.items in
    let who = c.args.who in
    let s = c.args.source in
    let one = c.index_mut-one.result.now in
    let new = c.call.new.self in
    let is = c.index_mut-one.ensures.value in
    let a = actor r c.args.self.now c.self.view_is who c.requires.actor in
    let n = next r c.args.self.now c.self.view_is who s c.args.call c.requires.next in
    let t = there r k c.args.self.now c.self.view_is who s c.args.call c.requires.next in
    let at = time r c.args.self.now c.self.view_is c.core.result.now c.time.result c.core.ensures.is c.time.ensures.time in
    let by : CallBy = record { actor = who; floor = r.floor; now = c.time.result } in
    let now : IsCalledNow m journal sources (job_at r.jobs) k.running s by c.args.call (viewed_source_of one) (viewed_source_of new) = record {
      there = t;
      old_is = old_is r k s t one is;
      next = call_is m journal sources (job_at r.jobs) k.running who s c.args.call a n;
      may = call_may m journal sources (job_at r.jobs) k.running who s c.args.call n _ c.time.result;
      floor_is = refl;
      time_is = at;
      calls = c.in-Ok.ensures.calls.1;
      settled = c.in-Ok.ensures.settled;
      timed = c.moments_are_ranged.ensures;
      acts = actor_told m who a;
      ranged = c.calls_are_ranged.ensures;
    } in
    let jobs' : JobsState = with_job r.jobs who (after_call c.in-Ok.stamp (job_at r.jobs who)) in
    record {
      machine_is = k.machine_is;
      running =
          subst (λ (xs : List SourceState). IsRunning m journal xs (job_at c.told_source.new.self) c.in-Ok.stamp) (sym (sources_set r.sources.items s new))
          (subst (λ (j : JobsState). IsRunning m journal (slice_set sources s new.source) (job_at j) c.in-Ok.stamp) (sym c.told_source.ensures)
          (running_call m journal sources (job_at r.jobs) k.running s by c.args.call (viewed_source_of one) (viewed_source_of new) now (job_at jobs') c.in-Ok.stamp c.in-Ok.ensures.calls.0 a
          (left r k c.args.self.now c.self.view_is who s c.args.call c.requires.actor c.requires.next).0 (jobs_with m r.jobs who (after_call c.in-Ok.stamp (job_at r.jobs who)) k.all_jobs a)));
      all_jobs = subst (AreAllJobs m) (sym c.told_source.ensures) (all_jobs_with m r.jobs who (after_call c.in-Ok.stamp (job_at r.jobs who)) k.all_jobs);
      table = k.table;
      seats = seats_set r.seated.seat r.sources.items s one new k.seats (within r k s t one is) is c.in-Ok.ensures.table c.in-Ok.ensures.number.0;
    }

pub invariant_of-self-in-Err : goal.invariant_of-self-in-Err
invariant_of-self-in-Err g c =
    let r = c.self.inside in
    let k = c.self.invariant in
    let t = there r k c.args.self.now c.self.view_is c.args.who c.args.source c.args.call c.requires.next in
    let one = c.index_mut-one.result.now in
    record {
      machine_is = k.machine_is;
      running = put_running r k c.args.source t one c.index_mut-one.ensures.value c.call.new.self c.in-Err.ensures.err;
      all_jobs = k.all_jobs;
      table = k.table;
      seats = put_seats r k c.args.source t one c.index_mut-one.ensures.value c.call.new.self c.in-Err.ensures.err;
    }

pub returns-in-Ok-clause-made : goal.returns-in-Ok-clause-made
returns-in-Ok-clause-made g c =
    let r = c.self.inside in
    let k = c.self.invariant in
    let one = c.index_mut-one.result.now in
    let new = c.call.new.self in
    let t = there r k c.args.self.now c.self.view_is c.args.who c.args.source c.args.call c.requires.next in
    let by : CallBy = record { actor = c.args.who; floor = r.floor; now = c.time.result } in
    omega (arith, more_entries r k c.args.source t one c.index_mut-one.ensures.value new (call_longer by c.args.call (viewed_source_of one) (viewed_source_of new) c.in-Ok.ensures.calls.1), ap entries_made c.self.view_is)

pub returns-in-Err-clause-fault : goal.returns-in-Err-clause-fault
returns-in-Err-clause-fault g c =
    let r = c.self.inside in
    let k = c.self.invariant in
    let t = there r k c.args.self.now c.self.view_is c.args.who c.args.source c.args.call c.requires.next in
    refused_put r k c.args.source t c.index_mut-one.result.now c.index_mut-one.ensures.value c.call.new.self c.in-Err.ensures.err c.of_call.result
    (refused r k c.args.source t c.index_mut-one.result.now c.index_mut-one.ensures.value c.in-Err.fault c.of_call.result c.of_call.ensures (λ e. c.in-Err.ensures.full.0 (ap Err e)))

pub returns-in-Err-clause-want : goal.returns-in-Err-clause-want
returns-in-Err-clause-want g c want =
    let r = c.self.inside in
    let k = c.self.invariant in
    let t = there r k c.args.self.now c.self.view_is c.args.who c.args.source c.args.call c.requires.next in
    subst (λ (x : RunState). length (of_sources x.sources c.args.source) + 4 ≤ most_entries) c.self.view_is
    (wanted r k c.args.source t c.index_mut-one.result.now c.index_mut-one.ensures.value c.in-Err.fault c.of_call.result c.of_call.ensures
    (λ l. (let full = c.in-Err.ensures.full.1 l in cc)) (let no : c.of_call.result ≡ fault.Mem = cc in no))
