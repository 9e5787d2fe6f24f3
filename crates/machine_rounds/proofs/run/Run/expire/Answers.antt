-- Proof that `Run::expire` meets its contract, and that it keeps the invariant of its type, and that it meets what `index_mut` and `call`
-- require.
use Rattle.std.proofs.Common.{◌≡◌, ◌≤◌, ◌+◌, ◌∙◌, ℕ, List, true, nat_le, length, refl, sym, ap, subst, arith, Err}
use Rattle.std.proofs.lemmas.Bool.Decides.{nat_tests}
use Rattle.std.proofs.lemmas.List.{length-map}
use Rattle.sleep_model.specs.declared.entry.Actor.TheVariants as actor
use Rattle.sleep_model.specs.declared.entry.Entry.{Entry}
use Rattle.sleep_model.specs.declared.machine.SourceCall.TheVariants as call
use Rattle.sleep_model.specs.Numbers.{time_of}
use Rattle.sleep_model.specs.Sources.{expiry, has_expired, most_entries}
use Rattle.sleep_state.specs.JournalRooms.{entries}
use Rattle.sleep_core.specs.Cores.{CoreState}
use Rattle.wakeup_source.specs.declared.call_by.CallBy.{CallBy}
use Rattle.wakeup_source.specs.SourceStates.{SourceState, unstamped_source}
use Rattle.run_objects.specs.Objects.{SeatedSourceState, viewed_source_of, sources_of}
use Rattle.running_laws.specs.Running.{IsRunning, histories, of_sources}
use Rattle.running_laws.proofs.Calls.{IsCalledNow, running_expire}
use Rattle.running_laws.proofs.Rising.{call_longer}
use Rattle.machine_rounds.specs.declared.run.Run.TheInside.{Inside}
use Rattle.world_workers.specs.declared.fault.RunFault.TheVariants as fault
use Rattle.machine_rounds.specs.JobsOf.{job_at}
use Rattle.machine_rounds.specs.RunFields.{state}
use Rattle.machine_rounds.specs.Runs.{RunState, entries_made}
use Rattle.machine_rounds.proofs.Calling.{at_table, history_is, more_entries, not_later, old_is, put_running, put_seats, refused, refused_put, wanted, within}
use Rattle.machine_rounds.proofs.JobsChanged.{not_timer}
use Rattle.machine_rounds.proofs.SeatedSources.{seats_set, sources_set}
use Rattle.machine_rounds.proofs.run.Run.expire.Goals as goal

there : (r : Inside) (s : RunState) → state r ≡ s → (source : ℕ) → source ≤ length s.machine.sources → source ≤ length r.machine.now.sources
there r s same source h = subst (λ (x : RunState). source ≤ length x.machine.sources) (sym same) h

time : (r : Inside) (s : RunState) → state r ≡ s → (core : CoreState) (at : ℕ) → core ≡ record { machine = s.machine; past = s.journal } → at ≡ time_of (entries core.past) → at ≡ time_of (entries r.seated.core.past)
time r s same core at is now = now ∙ (ap (λ (x : CoreState). time_of (entries x.past)) is ∙ sym (ap (λ (x : RunState). time_of (entries x.journal)) same))

due : (r : Inside) (s : RunState) → state r ≡ s → (source at : ℕ) (one : SourceState) → histories (sources_of r.sources.items) source ≡ unstamped_source one.past → at ≡ time_of (entries r.seated.core.past)
    → has_expired (expiry (histories s.sources source)) (time_of (entries s.journal)) ≡ true → has_expired (expiry (unstamped_source one.past)) at ≡ true
due r s same source at one own now h =
    let mine : has_expired (expiry (histories (sources_of r.sources.items) source)) (time_of (entries r.seated.core.past)) ≡ true =
    subst (λ (x : RunState). has_expired (expiry (histories x.sources source)) (time_of (entries x.journal)) ≡ true) (sym same) h in
    subst (λ (t : ℕ). has_expired (expiry (unstamped_source one.past)) t ≡ true) (sym now) (subst (λ (xs : List Entry). has_expired (expiry xs) (time_of (entries r.seated.core.past)) ≡ true) own mine)

pub index_mut-one-requires : goal.index_mut-one-requires
index_mut-one-requires g c =
    let r = c.self.inside in
    omega (arith, there r c.args.self.now c.self.view_is c.args.source c.requires.there, c.self.invariant.running.sources_are.count, length-map r.sources.items (λ (x : SeatedSourceState). x.source), r.sources.ok)

pub call-requires-clause-time : goal.call-requires-clause-time
call-requires-clause-time g c =
    let r = c.self.inside in
    let t = there r c.args.self.now c.self.view_is c.args.source c.requires.there in
    not_later r c.self.invariant c.args.source t c.index_mut-one.result.now c.index_mut-one.ensures.value c.time.result (time r c.args.self.now c.self.view_is c.core.result.now c.time.result c.core.ensures.is c.time.ensures.time)

pub call-requires-clause-may : goal.call-requires-clause-may
call-requires-clause-may g c =
    let r = c.self.inside in
    let t = there r c.args.self.now c.self.view_is c.args.source c.requires.there in
    due r c.args.self.now c.self.view_is c.args.source c.time.result c.index_mut-one.result.now.source
    (history_is r c.self.invariant c.args.source t c.index_mut-one.result.now c.index_mut-one.ensures.value)
    (time r c.args.self.now c.self.view_is c.core.result.now c.time.result c.core.ensures.is c.time.ensures.time) c.requires.due

pub call-requires-clause-table : goal.call-requires-clause-table
call-requires-clause-table g c =
    let r = c.self.inside in
    let t = there r c.args.self.now c.self.view_is c.args.source c.requires.there in
    at_table r c.self.invariant c.args.source t c.index_mut-one.result.now c.index_mut-one.ensures.value

timer : (s n : ℕ) → s ≤ n → nat_le s n ≡ true
timer s n l = grind (arith, nat_tests)

pub invariant_of-self : goal.invariant_of-self
invariant_of-self g c =
    let r = c.self.inside in
    let k = c.self.invariant in
    let m = r.machine.now in
    let journal = r.seated.core.past in
    let sources = sources_of r.sources.items in
    let s = c.args.source in
    let one = c.index_mut-one.result.now in
    let new = c.call.new.self in
    let is = c.index_mut-one.ensures.value in
    let t = there r c.args.self.now c.self.view_is s c.requires.there in
    let at = time r c.args.self.now c.self.view_is c.core.result.now c.time.result c.core.ensures.is c.time.ensures.time in
    let by : CallBy = record { actor = actor.Timer s; floor = r.floor; now = c.time.result } in
    let now : IsCalledNow m journal sources (job_at r.jobs) k.running s by call.Expire (viewed_source_of one) (viewed_source_of new) = record {
      there = t;
      old_is = old_is r k s t one is;
      next = refl;
      may = due r c.args.self.now c.self.view_is s c.time.result one.source (history_is r k s t one is) at c.requires.due;
      floor_is = refl;
      time_is = at;
      calls = c.in-Ok.ensures.calls.1;
      settled = c.in-Ok.ensures.settled;
      timed = c.moments_are_ranged.ensures;
      acts = timer s (length m.sources) t;
      ranged = refl;
    } in
    record {
      machine_is = k.machine_is;
      running =
          subst (λ (xs : List SourceState). IsRunning m journal xs (job_at r.jobs) c.in-Ok.stamp) (sym (sources_set r.sources.items s new))
          (running_expire m journal sources (job_at r.jobs) k.running s by call.Expire (viewed_source_of one) (viewed_source_of new) now c.in-Ok.stamp c.in-Ok.ensures.calls.0 (λ other b. not_timer m s other b));
      all_jobs = k.all_jobs;
      table = k.table;
      seats = seats_set r.seated.seat r.sources.items s one new k.seats (within r k s t one is) is c.in-Ok.ensures.table c.in-Ok.ensures.number.0;
    }

pub invariant_of-self-in-Err : goal.invariant_of-self-in-Err
invariant_of-self-in-Err g c =
    let r = c.self.inside in
    let k = c.self.invariant in
    let t = there r c.args.self.now c.self.view_is c.args.source c.requires.there in
    let one = c.index_mut-one.result.now in
    record {
      machine_is = k.machine_is;
      running = put_running r k c.args.source t one c.index_mut-one.ensures.value c.call.new.self c.in-Err.ensures.err;
      all_jobs = k.all_jobs;
      table = k.table;
      seats = put_seats r k c.args.source t one c.index_mut-one.ensures.value c.call.new.self c.in-Err.ensures.err;
    }

pub returns-in-Ok-clause-made : goal.returns-in-Ok-clause-made
returns-in-Ok-clause-made g c =
    let r = c.self.inside in
    let one = c.index_mut-one.result.now in
    let new = c.call.new.self in
    let t = there r c.args.self.now c.self.view_is c.args.source c.requires.there in
    let by : CallBy = record { actor = actor.Timer c.args.source; floor = r.floor; now = c.time.result } in
    omega (arith, more_entries r c.self.invariant c.args.source t one c.index_mut-one.ensures.value new (call_longer by call.Expire (viewed_source_of one) (viewed_source_of new) c.in-Ok.ensures.calls.1), ap entries_made c.self.view_is)

pub returns-in-Err-clause-fault : goal.returns-in-Err-clause-fault
returns-in-Err-clause-fault g c =
    let r = c.self.inside in
    let k = c.self.invariant in
    let t = there r c.args.self.now c.self.view_is c.args.source c.requires.there in
    refused_put r k c.args.source t c.index_mut-one.result.now c.index_mut-one.ensures.value c.call.new.self c.in-Err.ensures.err c.of_call.result
    (refused r k c.args.source t c.index_mut-one.result.now c.index_mut-one.ensures.value c.in-Err.fault c.of_call.result c.of_call.ensures (λ e. c.in-Err.ensures.full.0 (ap Err e)))

pub returns-in-Err-clause-want : goal.returns-in-Err-clause-want
returns-in-Err-clause-want g c want =
    let r = c.self.inside in
    let k = c.self.invariant in
    let t = there r c.args.self.now c.self.view_is c.args.source c.requires.there in
    subst (λ (x : RunState). length (of_sources x.sources c.args.source) + 4 ≤ most_entries) c.self.view_is
    (wanted r k c.args.source t c.index_mut-one.result.now c.index_mut-one.ensures.value c.in-Err.fault c.of_call.result c.of_call.ensures
    (λ l. (let full = c.in-Err.ensures.full.1 l in cc)) (let no : c.of_call.result ≡ fault.Mem = cc in no))
