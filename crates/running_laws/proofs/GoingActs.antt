-- Each act keeps what a run keeps.
use Rattle.std.proofs.Common.{◌≡◌, ◌∙◌, ◌≤◌, ◌<◌, ◌+◌, ℕ, Bool, true, false, cond, ◌==◌, nat_le, List, [], ◌∷◌, length, Some, slice_get, slice_set, refl, sym, ap, subst, arith}
use Rattle.std.proofs.lemmas.Bool.Decides.{nat_tests}
use Rattle.sleep_model.specs.declared.entry.Actor.{Actor}
use Rattle.sleep_model.specs.declared.entry.Actor.TheVariants as actor
use Rattle.sleep_model.specs.declared.entry.JournalEntry.{JournalEntry}
use Rattle.sleep_model.specs.declared.entry.Kind.{Kind}
use Rattle.sleep_model.specs.declared.log.Want.TheVariants as want
use Rattle.sleep_model.specs.declared.machine.Machine.{Machine}
use Rattle.sleep_model.specs.declared.machine.SourceCall.{SourceCall}
use Rattle.sleep_model.specs.declared.machine.SourceCall.TheVariants as calls
use Rattle.sleep_model.specs.declared.word.Stamp.{Stamp}
use Rattle.sleep_model.specs.Calls.{calls_due, note}
use Rattle.sleep_model.specs.Fits.{is_word64}
use Rattle.sleep_model.specs.Legal.{JournalPart}
use Rattle.sleep_model.specs.Numbers.{time_of}
use Rattle.sleep_model.specs.Path.{is_same}
use Rattle.sleep_model.specs.Word.{position}
use Rattle.sleep_state.specs.JournalRooms.{entries}
use Rattle.sleep_core.specs.Cores.{IsActor, made_entry, next_stamp}
use Rattle.sleep_script.specs.Jobs.{IsJobOf, IsWanted, JobState, TimerState, after_call, after_expiry, after_turn}
use Rattle.sleep_script.proofs.Following.{wanted_source}
use Rattle.wakeup_source.specs.declared.call_by.CallBy.{CallBy}
use Rattle.wakeup_source.specs.SourceStates.{SourceState}
use Rattle.room_laws.specs.Ranged.{is_ranged}
use Rattle.run_laws.proofs.Calling.{same_actor}
use Rattle.turn_lock.specs.declared.view.Made.{Made}
use Rattle.run_laws.specs.Passes.{Noted}
use Rattle.run_world.specs.Outcomes.{IsReport, IsTurn}
use Rattle.running_laws.specs.Running.{CallsNext, IsGoing, OneStampChanges, IsWith, calls_made}
use Rattle.running_laws.proofs.Asked.{call_is, call_there}
use Rattle.running_laws.proofs.Calls.{going_call, going_expire}
use Rattle.running_laws.proofs.Invariant.{actor_told}
use Rattle.running_laws.proofs.Rising.{time_preserved}
use Rattle.running_laws.proofs.Turns.{going_turn}
use Rattle.run_world.specs.declared.task.Task.{Task}
use Rattle.run_world.specs.declared.task.Task.TheVariants as task
use Rattle.run_world.specs.Acts.{Does, actor_of}
use Rattle.run_world.specs.Acts as acts
use Rattle.running_laws.specs.Courses.{AreTasks, GoesOnAt, IsTaskOf, Lands, BurstState}
use Rattle.running_laws.proofs.GoingLanding.{HasLanded, lands_nowhere, lands_there}
use Rattle.running_laws.proofs.GoingReports.{HasReported, after, before, called_now, going_before, has_reported, lists_after}
use Rattle.running_laws.proofs.GoingTasks.{tasks_go}

-- ---- one actor's is another, and the others' are as they were

abbrev put : {A : Type 0} → Actor → A → (Actor → A) → Actor → A
put who x of other = cond (is_same who other) x (of other)

put_same : {A : Type 0} (who : Actor) (x : A) (of : Actor → A) → put who x of who ≡ x
put_same who x of = ap (λ (b : Bool). cond b x (of who)) (same_actor who)

put_other : {A : Type 0} (who : Actor) (x : A) (of : Actor → A) (other : Actor) → is_same who other ≡ false → put who x of other ≡ of other
put_other who x of other apart = ap (λ (b : Bool). cond b x (of other)) apart

with_put : (m : Machine) (jobs : Actor → JobState) (who : Actor) (job : JobState) → IsWith m jobs (put who job jobs) who job
with_put m jobs who job = record { same = put_same who job jobs; others = λ other is apart. put_other who job jobs other apart }

moved_put : (floors : Actor → Stamp) (who : Actor) (stamp : Stamp) → OneStampChanges floors (put who stamp floors) who stamp
moved_put floors who stamp = record { same = put_same who stamp floors; others = λ other apart. put_other who stamp floors other apart }

-- the tasks of the others are theirs
others_keep : (m : Machine) (jobs : Actor → JobState) (floors : Actor → Stamp) (who : Actor) (job : JobState) (stamp : Stamp) (t : Task) → is_same who (actor_of t) ≡ false
    → IsTaskOf m jobs floors t → IsTaskOf m (put who job jobs) (put who stamp floors) t
others_keep m jobs floors who job stamp (task.Acts other) apart h = (h.0, put_other who job jobs other.who apart ∙ h.1, put_other who stamp floors other.who apart ∙ h.2)
others_keep m jobs floors who job stamp (task.Fires timer) apart h = (h.0, put_other who stamp floors (actor.Timer timer.source) apart ∙ h.1)

others_know : (m : Machine) (jobs : Actor → JobState) (floors : Actor → Stamp) (who : Actor) (stamp : Stamp) (t : Task) → is_same who (actor_of t) ≡ false
    → IsTaskOf m jobs floors t → IsTaskOf m jobs (put who stamp floors) t
others_know m jobs floors who stamp (task.Acts other) apart h = (h.0, h.1, put_other who stamp floors other.who apart ∙ h.2)
others_know m jobs floors who stamp (task.Fires timer) apart h = (h.0, put_other who stamp floors (actor.Timer timer.source) apart ∙ h.1)

-- ---- a job in a run

job_of : (m : Machine) (journal : List JournalEntry) (sources : List SourceState) (jobs : Actor → JobState) (floors : Actor → Stamp) → IsGoing m journal sources jobs floors → (job : JobState)
    → IsTaskOf m jobs floors (task.Acts job) → IsJobOf m job.who (entries journal) (calls_made m sources job.who) job
job_of m journal sources jobs floors r job here =
    subst (λ (j : JobState). IsJobOf m job.who (entries journal) (calls_made m sources job.who) j) here.1 (r.jobs_are job.who here.0)

-- a turn
turn_goes : (m : Machine) (sources : List SourceState) (jobs : Actor → JobState) (floors : Actor → Stamp) (job : JobState) (stamp : Stamp) (k : Kind) (attempt : ℕ) (gains : List (Made Noted))
    → (t : IsTurn job.machine job.who job.calls job.floor stamp k attempt gains) → IsGoing m t.past sources jobs floors → IsTaskOf m jobs floors (task.Acts job)
    → is_word64 (time_of (entries t.past)) ≡ true → is_ranged k ≡ true
    → IsGoing m (made_entry t.past job.who t.word job.floor k ∷ t.past) sources (put job.who (after_turn stamp k attempt job) jobs) (put job.who stamp floors)
turn_goes m sources jobs floors job stamp k attempt gains t r here timed ranged =
    let is = job_of m t.past sources jobs floors r job here in
    subst (λ (f : Stamp). IsGoing m (made_entry t.past job.who t.word f k ∷ t.past) sources (put job.who (after_turn stamp k attempt job) jobs) (put job.who stamp floors)) here.2
    (going_turn m t.past sources jobs r job.who t.word k here.0
    (sym is.calls_are ∙ (t.calls_are ∙ ap (λ (x : Machine). calls_due x job.who (entries t.past)) is.machine_is))
    (subst (λ (f : Stamp). f.pos ≤ position t.word) (sym here.2) t.floor_low)
    t.last_low
    (subst (λ (x : Machine). JournalPart x (entries (made_entry t.past job.who t.word (floors job.who) k ∷ t.past))) is.machine_is t.legal)
    (put job.who (after_turn stamp k attempt job) jobs) (put job.who stamp floors) stamp attempt
    (t.stamp_is ∙ ap (λ (f : Stamp). next_stamp t.past f t.word) (sym here.2)) t.attempt_is
    (subst (λ (j : JobState). IsWith m jobs (put job.who (after_turn stamp k attempt job) jobs) job.who (after_turn stamp k attempt j)) (sym here.1) (with_put m jobs job.who (after_turn stamp k attempt job)))
    (moved_put floors job.who stamp) timed ranged)

-- a timer has no job
no_timer : (m : Machine) (s : ℕ) (other : Actor) → IsActor m other → is_same (actor.Timer s) other ≡ false
no_timer m s (actor.Script i) h = refl
no_timer m s actor.Auto h = refl
no_timer m s (actor.Dev d) h = refl
no_timer m s (actor.Timer t) h = absurd h
no_timer m s actor.Time h = refl

-- the machine's list is no source's
after_it : (s : ℕ) → (0 == 1 + s) ≡ false
after_it s = grind (arith, nat_tests)

-- ---- an act

-- the run goes on, at the same moment, and all but one actor know what they knew
pub record GoesOnBy (m : Machine) (moment : ℕ) (who : Actor) (floors : Actor → Stamp) (new : BurstState) : Type 0 where
  pub on : GoesOnAt m new
  pub others : (other : Actor) → is_same who other ≡ false → on.floors other ≡ floors other
  pub time : moment ≡ time_of (entries (new.lists 0))

module _ (m : Machine) (moment : ℕ) (old new : BurstState) (g : GoesOnAt m old) (timed : is_word64 moment ≡ true) (now : moment ≡ time_of (entries (old.lists 0))) where
  -- nothing
  none_on : (t : Task) (place : ℕ) → slice_get old.tasks place ≡ Some t → new.tasks ≡ slice_set old.tasks place t → Lands [] old.lists new.lists → GoesOnBy m moment (actor_of t) g.floors new
  none_on t place there tasks l =
      let same = lands_nowhere old.lists new.lists l in
      record {
        on = record {
          sources = g.sources;
          jobs = g.jobs;
          floors = g.floors;
          going = subst (λ (xs : List JournalEntry). IsGoing m xs g.sources g.jobs g.floors) (sym (same 0)) g.going;
          lists_are = λ s. same (1 + s) ∙ g.lists_are s;
          tasks_are = subst (AreTasks m g.jobs g.floors) (sym tasks) (tasks_go m g.jobs g.jobs g.floors g.floors old.tasks place t t g.tasks_are there refl (g.tasks_are.each place t there) (λ u apart h. h));
        };
        others = λ other apart. refl;
        time = now ∙ ap (λ (xs : List JournalEntry). time_of (entries xs)) (sym (same 0));
      }

  -- a turn
  turn_on : (job : JobState) (stamp : Stamp) (k : Kind) (attempt : ℕ) (gains : List (Made Noted)) (place : ℕ) → slice_get old.tasks place ≡ Some (task.Acts job)
      → new.tasks ≡ slice_set old.tasks place (task.Acts (after_turn stamp k attempt job)) → Lands gains old.lists new.lists
      → is_ranged k ≡ true → IsTurn job.machine job.who job.calls job.floor stamp k attempt gains → GoesOnBy m moment job.who g.floors new
  turn_on job stamp k attempt gains place there tasks l ranged t =
      let here : IsTaskOf m g.jobs g.floors (task.Acts job) = g.tasks_are.each place (task.Acts job) there in
      let landed : HasLanded 0 t.past (made_entry t.past job.who t.word job.floor k ∷ t.past) old.lists new.lists =
      lands_there 0 (length t.past) t.past (made_entry t.past job.who t.word job.floor k) [] gains old.lists new.lists t.gained l in
      let still : moment ≡ time_of (entries t.past) = now ∙ ap (λ (xs : List JournalEntry). time_of (entries xs)) landed.was in
      let stands : IsGoing m t.past g.sources g.jobs g.floors = subst (λ (xs : List JournalEntry). IsGoing m xs g.sources g.jobs g.floors) landed.was g.going in
      let goes = turn_goes m g.sources g.jobs g.floors job stamp k attempt gains t stands here (subst (λ (n : ℕ). is_word64 n ≡ true) still timed) ranged in
      record {
        on = record {
          sources = g.sources;
          jobs = put job.who (after_turn stamp k attempt job) g.jobs;
          floors = put job.who stamp g.floors;
          going = subst (λ (xs : List JournalEntry). IsGoing m xs g.sources (put job.who (after_turn stamp k attempt job) g.jobs) (put job.who stamp g.floors)) (sym landed.is) goes;
          lists_are = λ s. landed.others (1 + s) (after_it s) ∙ g.lists_are s;
          tasks_are =
              subst (AreTasks m (put job.who (after_turn stamp k attempt job) g.jobs) (put job.who stamp g.floors)) (sym tasks)
              (tasks_go m g.jobs (put job.who (after_turn stamp k attempt job) g.jobs) g.floors (put job.who stamp g.floors) old.tasks place (task.Acts job) (task.Acts (after_turn stamp k attempt job)) g.tasks_are there refl
              (here.0, put_same job.who (after_turn stamp k attempt job) g.jobs, put_same job.who stamp g.floors)
              (others_keep m g.jobs g.floors job.who (after_turn stamp k attempt job) stamp));
        };
        others = put_other job.who stamp g.floors;
        time = still ∙ (sym (time_preserved k (time_of (entries t.past))) ∙ ap (λ (xs : List JournalEntry). time_of (entries xs)) (sym landed.is));
      }

  -- a call
  call_on : (job : JobState) (s : ℕ) (call : SourceCall) (stamp : Stamp) (gains : List (Made Noted)) (place : ℕ) → slice_get old.tasks place ≡ Some (task.Acts job)
      → new.tasks ≡ slice_set old.tasks place (task.Acts (after_call stamp job)) → Lands gains old.lists new.lists
      → IsWanted job (want.Source s call) → is_ranged (note s call) ≡ true → IsReport (record { actor = job.who; floor = job.floor; now = moment }) call s stamp gains
      → GoesOnBy m moment job.who g.floors new
  call_on job s call stamp gains place there tasks l wanted ranged t =
      let by : CallBy = record { actor = job.who; floor = job.floor; now = moment } in
      let here : IsTaskOf m g.jobs g.floors (task.Acts job) = g.tasks_are.each place (task.Acts job) there in
      let journal : List JournalEntry = old.lists 0 in
      let reported : HasReported s t.old.source t.new.source old.lists new.lists = has_reported by call s stamp gains t old.lists new.lists l in
      let was = sym (g.lists_are s) ∙ reported.was in
      let next : CallsNext m journal g.sources job.who s call =
      (wanted_source m job.who (entries journal) (calls_made m g.sources job.who) job s call (job_of m journal g.sources g.jobs g.floors g.going job here) wanted).0 in
      let at : s ≤ length m.sources = call_there m journal g.sources g.jobs g.going job.who s call next in
      let r = going_before m journal g.sources g.jobs g.floors g.going by call s stamp gains t was at in
      let before' = before m journal g.sources g.jobs g.floors g.going by call s stamp gains t was at in
      let after' = after m journal g.sources g.jobs g.floors g.going by call s stamp gains t was at in
      let wants = wanted_source m job.who (entries journal) (calls_made m before' job.who) job s call (job_of m journal before' g.jobs g.floors r job here) wanted in
      let called = called_now m journal g.sources g.jobs g.floors g.going by call s stamp gains t was at
      (call_is m journal before' g.jobs r job.who s call here.0 wants.0) (sym here.2) now timed (actor_told m job.who here.0) ranged in
      let goes = going_call m journal before' g.jobs r s by call t.old t.new called (put job.who (after_call stamp job) g.jobs) (put job.who stamp g.floors) stamp t.stamp_is here.0
      (subst (λ (j : JobState). 0 < length j.pending) (sym here.1) wants.2)
      (subst (λ (j : JobState). IsWith m g.jobs (put job.who (after_call stamp job) g.jobs) job.who (after_call stamp j)) (sym here.1) (with_put m g.jobs job.who (after_call stamp job)))
      (moved_put g.floors job.who stamp) in
      record {
        on = record {
          sources = after';
          jobs = put job.who (after_call stamp job) g.jobs;
          floors = put job.who stamp g.floors;
          going = subst (λ (xs : List JournalEntry). IsGoing m xs after' (put job.who (after_call stamp job) g.jobs) (put job.who stamp g.floors)) (sym reported.journal) goes;
          lists_are = lists_after m journal g.sources g.jobs g.floors g.going by call s stamp gains t was at old.lists new.lists g.lists_are reported;
          tasks_are =
              subst (AreTasks m (put job.who (after_call stamp job) g.jobs) (put job.who stamp g.floors)) (sym tasks)
              (tasks_go m g.jobs (put job.who (after_call stamp job) g.jobs) g.floors (put job.who stamp g.floors) old.tasks place (task.Acts job) (task.Acts (after_call stamp job)) g.tasks_are there refl
              (here.0, put_same job.who (after_call stamp job) g.jobs, put_same job.who stamp g.floors)
              (others_keep m g.jobs g.floors job.who (after_call stamp job) stamp));
        };
        others = put_other job.who stamp g.floors;
        time = now ∙ ap (λ (xs : List JournalEntry). time_of (entries xs)) (sym reported.journal);
      }

  -- an expiry
  expiry_on : (timer : TimerState) (stamp : Stamp) (gains : List (Made Noted)) (place : ℕ) → slice_get old.tasks place ≡ Some (task.Fires timer)
      → new.tasks ≡ slice_set old.tasks place (task.Fires (after_expiry stamp timer)) → Lands gains old.lists new.lists
      → IsReport (record { actor = actor.Timer timer.source; floor = timer.floor; now = moment }) calls.Expire timer.source stamp gains
      → GoesOnBy m moment (actor.Timer timer.source) g.floors new
  expiry_on timer stamp gains place there tasks l t =
      let s : ℕ = timer.source in
      let who : Actor = actor.Timer timer.source in
      let by : CallBy = record { actor = actor.Timer timer.source; floor = timer.floor; now = moment } in
      let here : IsTaskOf m g.jobs g.floors (task.Fires timer) = g.tasks_are.each place (task.Fires timer) there in
      let journal : List JournalEntry = old.lists 0 in
      let reported : HasReported s t.old.source t.new.source old.lists new.lists = has_reported by calls.Expire s stamp gains t old.lists new.lists l in
      let was = sym (g.lists_are s) ∙ reported.was in
      let at : s ≤ length m.sources = here.0 in
      let r = going_before m journal g.sources g.jobs g.floors g.going by calls.Expire s stamp gains t was at in
      let before' = before m journal g.sources g.jobs g.floors g.going by calls.Expire s stamp gains t was at in
      let after' = after m journal g.sources g.jobs g.floors g.going by calls.Expire s stamp gains t was at in
      let fits : nat_le timer.source (length m.sources) ≡ true = grind (arith, nat_tests) in
      let called = called_now m journal g.sources g.jobs g.floors g.going by calls.Expire s stamp gains t was at refl (sym here.1) now timed fits refl in
      let goes = going_expire m journal before' g.jobs r s by calls.Expire t.old t.new called (put who stamp g.floors) stamp t.stamp_is (no_timer m s) (moved_put g.floors who stamp) in
      record {
        on = record {
          sources = after';
          jobs = g.jobs;
          floors = put who stamp g.floors;
          going = subst (λ (xs : List JournalEntry). IsGoing m xs after' g.jobs (put who stamp g.floors)) (sym reported.journal) goes;
          lists_are = lists_after m journal g.sources g.jobs g.floors g.going by calls.Expire s stamp gains t was at old.lists new.lists g.lists_are reported;
          tasks_are =
              subst (AreTasks m g.jobs (put who stamp g.floors)) (sym tasks)
              (tasks_go m g.jobs g.jobs g.floors (put who stamp g.floors) old.tasks place (task.Fires timer) (task.Fires (after_expiry stamp timer)) g.tasks_are there refl
              (here.0, put_same who stamp g.floors) (others_know m g.jobs g.floors who stamp));
        };
        others = put_other who stamp g.floors;
        time = now ∙ ap (λ (xs : List JournalEntry). time_of (entries xs)) (sym reported.journal);
      }

  -- each act
  pub acted : (count : ℕ) (was : Task) (gains : List (Made Noted)) (is : Task) → Does count moment was gains is → (place : ℕ) → slice_get old.tasks place ≡ Some was → new.tasks ≡ slice_set old.tasks place is
      → Lands gains old.lists new.lists → GoesOnBy m moment (actor_of was) g.floors new
  acted count was gains is (acts.Nothing t) place there tasks l = none_on t place there tasks l
  acted count was gains is (acts.Turns job stamp k attempt gained wanted ranged t) place there tasks l = turn_on job stamp k attempt gained place there tasks l ranged t
  acted count was gains is (acts.Calls job s call stamp gained within wanted ranged t) place there tasks l = call_on job s call stamp gained place there tasks l wanted ranged t
  acted count was gains is (acts.Expires timer stamp gained within t) place there tasks l = expiry_on timer stamp gained place there tasks l t

-- a task stays its actor's
pub actor_stays : (count moment : ℕ) (was : Task) (gains : List (Made Noted)) (is : Task) → Does count moment was gains is → actor_of is ≡ actor_of was
actor_stays count moment was gains is (acts.Nothing t) = refl
actor_stays count moment was gains is (acts.Turns job stamp k attempt gained wanted ranged t) = refl
actor_stays count moment was gains is (acts.Calls job s call stamp gained within wanted ranged t) = refl
actor_stays count moment was gains is (acts.Expires timer stamp gained within t) = refl
