-- Turns and jumps preserve the invariant of a run.
use Rattle.std.proofs.Common.{◌≡◌, ◌≤◌, ◌+◌, ◌∙◌, ℕ, Option, Bool, true, false, List, [], ◌∷◌, refl, sym, ap, subst, arith, ap₂, cond}
use Rattle.std.specs.List.{list_all}
use Rattle.sleep_model.specs.declared.entry.Actor.{Actor}
use Rattle.sleep_model.specs.declared.entry.Actor.TheVariants as actor
use Rattle.sleep_model.specs.declared.entry.Entry.{Entry}
use Rattle.sleep_model.specs.declared.entry.JournalEntry.{JournalEntry}
use Rattle.sleep_model.specs.declared.entry.Kind.{Kind}
use Rattle.sleep_model.specs.declared.machine.Machine.{Machine}
use Rattle.sleep_model.specs.declared.word.EventNow.{EventNow}
use Rattle.sleep_model.specs.declared.word.Stamp.{Stamp}
use Rattle.sleep_model.specs.Calls.{calls_due}
use Rattle.sleep_model.specs.Fits.{is_word64}
use Rattle.sleep_model.specs.Legal.{JournalPart, JumpStep}
use Rattle.sleep_model.specs.Merge.{is_jump}
use Rattle.sleep_model.specs.Numbers.{time_of}
use Rattle.sleep_model.specs.EntryClasses.{OfJournal, class_of}
use Rattle.sleep_model.specs.Path.{attempts, is_same}
use Rattle.sleep_model.specs.Sources.{expiry}
use Rattle.sleep_model.specs.Word.{position}
use Rattle.sleep_state.specs.JournalRooms.{entries}
use Rattle.sleep_core.specs.Cores.{IsActor, jump_entry, made_entry, next_stamp}
use Rattle.core_history.specs.Histories.{last_stamp}
use Rattle.sleep_script.specs.Jobs.{IsJobOf, JobState, after_turn}
use Rattle.sleep_script.proofs.Following.{other_entry, own_entry}
use Rattle.wakeup_source.specs.SourceStates.{SourceState}
use Rattle.end_laws.proofs.Nearby.{are_bounded}
use Rattle.room_laws.specs.Ranged.{is_ranged, is_ranged_entry}
use Rattle.log_merge.proofs.Reading.{both}
use Rattle.run_laws.proofs.Calling.{same_actor}
use Rattle.run_laws.specs.Acts.{Made, with_entry}
use Rattle.run_laws.specs.Called.{knows}
use Rattle.run_laws.specs.Invariant.{EachJump, RunInvariant}
use Rattle.run_laws.specs.Turned.{IsTurned, MayLeap, MayTurn, newest_stamp}
use Rattle.run_laws.proofs.Acts.{actor_is}
use Rattle.run_laws.proofs.Called.{knows_itself}
use Rattle.run_laws.proofs.Invariant.{each_by}
use Rattle.run_laws.proofs.Turned.{leap_grows, leaves, turn_grows, turn_class}
use Rattle.running_laws.specs.Running.{AreJobs, AreLow, FloorsKnow, IsGoing, OneStampChanges, IsBounded, IsRunning, IsWith, calls_made, entry_count, histories, made_so}
use Rattle.running_laws.proofs.Invariant.{actor_told, all_known, calls_are_notes, free}
use Rattle.running_laws.proofs.Known.{knows_more}
use Rattle.running_laws.proofs.Lists.{entries_unstamped}
use Rattle.running_laws.proofs.Rising.{EndsBy, ends_later, floors_low, jobs_low, time_preserved}

last_newest : (journal : List JournalEntry) → last_stamp journal ≡ newest_stamp journal
last_newest [] = refl
last_newest (e ∷ journal) = refl

-- an actor of the core is not time
timeless : (m : Machine) (who : Actor) → IsActor m who → is_same who actor.Time ≡ false
timeless m (actor.Script i) h = refl
timeless m actor.Auto h = refl
timeless m (actor.Dev d) h = refl
timeless m (actor.Timer s) h = absurd h
timeless m actor.Time h = absurd h

-- ---- what actors know

-- who knows more goes on knowing
pub raised : (m : Machine) (journal : List JournalEntry) (sources : List SourceState) (jobs : Actor → JobState) (floors later : Actor → Stamp) → ((who : Actor) → (floors who).tick ≤ (later who).tick)
    → ((who : Actor) → (floors who).pos ≤ (later who).pos) → ((who : Actor) → (later who).tick ≤ entry_count journal sources) → IsGoing m journal sources jobs floors → IsGoing m journal sources jobs later
raised m journal sources jobs floors later tick pos low g = record {
  accepted = g.accepted;
  own = g.own;
  invariant = g.invariant;
  sources_are = g.sources_are;
  jobs_are = g.jobs_are;
  floors_know = record {
    own = λ who. knows_more (floors who) (later who) (g.own who) (tick who) (pos who) (g.floors_know.own who);
    jumps = λ who. each_by (λ jump. knows (floors who) (jump ∷ []) ≡ true) (λ jump. knows (later who) (jump ∷ []) ≡ true) journal
        (λ jump. knows_more (floors who) (later who) (jump ∷ []) (tick who) (pos who)) (g.floors_know.jumps who);
  };
  shown = g.shown;
  low = record { newest = g.low.newest; of_each = g.low.of_each; of_jobs = g.low.of_jobs; of_actors = low };
  near = g.near;
}

module _ (m : Machine) (journal : List JournalEntry) (sources : List SourceState) (jobs : Actor → JobState) {floors : Actor → Stamp} (g : IsGoing m journal sources jobs floors) where
  abbrev past : Made
  past = made_so journal sources g.own

  -- ---- an entry of the journal, of an actor or of time

  module _ (who : Actor) (e : JournalEntry) (t : IsTurned m past (with_entry e past) who e) where
    is_so : with_entry e past ≡ made_so (e ∷ journal) sources (with_entry e past).own
    is_so = λ i. record { journal = t.journal i; of = λ s. t.sources s i; own = (with_entry e past).own }

    -- the actor's stamp is the entry's, and the others' know as much as they knew
    own_known : (floors' : Actor → Stamp) → OneStampChanges floors floors' who e.stamp → (other : Actor) → knows (floors' other) ((with_entry e past).own other) ≡ true
    own_known floors' w other = by (is_same who other) refl
      where
        by : (b : Bool) → is_same who other ≡ b → knows (floors' other) ((with_entry e past).own other) ≡ true
        by true is =
            ap (λ (x : Actor). knows (floors' x) ((with_entry e past).own x)) (sym (actor_is who other is))
            ∙ (ap (λ (f : Stamp). knows f ((with_entry e past).own who)) w.same ∙ t.own)
        by false is = ap₂ knows (w.others other is) (t.others_own other is) ∙ g.floors_know.own other

    -- the run goes on
    goes_on : (jobs' : Actor → JobState) (floors' : Actor → Stamp) → FloorsKnow floors' (made_so (e ∷ journal) sources (with_entry e past).own) → AreJobs m (e ∷ journal) sources jobs' → is_ranged_entry m e.entry ≡ true
        → AreLow m (e ∷ journal) sources jobs' floors' → IsBounded (e ∷ journal) sources → IsGoing m (e ∷ journal) sources jobs' floors'
    goes_on jobs' floors' known are shown low near = record {
      accepted = g.accepted;
      own = (with_entry e past).own;
      invariant = subst (RunInvariant m) is_so t.invariant;
      sources_are = g.sources_are;
      jobs_are = are;
      floors_know = known;
      shown = (both (is_ranged_entry m e.entry) (list_all (λ e. is_ranged_entry m e.entry) journal) shown g.shown.0, g.shown.1);
      low = low;
      near = near;
    }

  -- ---- a turn

  module _ (who : Actor) (word : EventNow) (k : Kind) (a : IsActor m who) (made : calls_made m sources who ≡ calls_due m who (entries journal))
      (low : (floors who).pos ≤ position word) (last : (last_stamp journal).pos ≤ position word) (legal : JournalPart m (entries (made_entry journal who word (floors who) k ∷ journal))) where
    abbrev entry : JournalEntry
    entry = made_entry journal who word (floors who) k

    may : MayTurn m past who (floors who) entry
    may = record {
      invariant = g.invariant;
      by = refl;
      timeless = timeless m who a;
      free = free m journal sources jobs g who;
      all_made = sym (calls_are_notes m journal sources jobs g who) ∙ (made ∙ ap (calls_due m who) (entries_unstamped journal));
      legal = subst (JournalPart m) (entries_unstamped (entry ∷ journal)) legal;
      own = g.floors_know.own who;
      jumps = g.floors_know.jumps who;
      behind = record { tick = omega arith; pos = low };
      last = record { tick = omega (arith, ap (λ (s : Stamp). s.tick) (last_newest journal)); pos = omega (arith, last, ap (λ (s : Stamp). s.pos) (last_newest journal)) };
    }

    turned : IsTurned m past (with_entry entry past) who entry
    turned = turn_grows m past who (floors who) entry may

    -- it is no jump
    part : class_of k ≡ OfJournal
    part = turn_class m past (floors who) entry may

    jumps_known : (floors' : Actor → Stamp) → OneStampChanges floors floors' who entry.stamp → (other : Actor) → EachJump (λ jump. knows (floors' other) (jump ∷ []) ≡ true) (entry ∷ journal)
    jumps_known floors' w other = (λ jump. absurd (let bad : true ≡ false = sym jump ∙ ap is_jump part in cc), by (is_same who other) refl)
      where
        by : (b : Bool) → is_same who other ≡ b → EachJump (λ jump. knows (floors' other) (jump ∷ []) ≡ true) journal
        by true is =
            subst (λ (x : Actor). EachJump (λ jump. knows (floors' x) (jump ∷ []) ≡ true) journal) (actor_is who other is)
            (subst (λ (f : Stamp). EachJump (λ jump. knows f (jump ∷ []) ≡ true) journal) (sym w.same)
            (each_by (λ jump. knows (floors who) (jump ∷ []) ≡ true) (λ jump. knows entry.stamp (jump ∷ []) ≡ true) journal
            (λ jump. knows_more (floors who) entry.stamp (jump ∷ []) (omega arith) low) (g.floors_know.jumps who)))
        by false is = subst (λ (f : Stamp). EachJump (λ jump. knows f (jump ∷ []) ≡ true) journal) (sym (w.others other is)) (g.floors_know.jumps other)

    are_jobs : (jobs' : Actor → JobState) (stamp : Stamp) (attempt : ℕ) → attempt ≡ attempts (entries (entry ∷ journal)) → IsWith m jobs jobs' who (after_turn stamp k attempt (jobs who)) → AreJobs m (entry ∷ journal) sources jobs'
    are_jobs jobs' stamp attempt begun w other b = by (is_same who other) refl
      where
        by : (c : Bool) → is_same who other ≡ c → IsJobOf m other (entries (entry ∷ journal)) (calls_made m sources other) (jobs' other)
        by true is =
            subst (λ (x : Actor). IsJobOf m x (entries (entry ∷ journal)) (calls_made m sources x) (jobs' x)) (actor_is who other is)
            (subst (λ (j : JobState). IsJobOf m who (entries (entry ∷ journal)) (calls_made m sources who) j) (sym w.same)
            (own_entry m who entry.entry (entries journal) (calls_made m sources who) (jobs who) stamp attempt (same_actor who) begun made (g.jobs_are who a)))
        by false is =
            subst (λ (j : JobState). IsJobOf m other (entries (entry ∷ journal)) (calls_made m sources other) j) (sym (w.others other b is))
            (other_entry m other entry.entry (entries journal) (calls_made m sources other) (jobs other) is (g.jobs_are other b))

    -- no tick is above the number of entries
    entry_low : entry.stamp.tick ≤ entry_count (entry ∷ journal) sources
    entry_low = omega (arith, g.low.newest, g.low.of_actors who, ap (λ (s : Stamp). s.tick) (last_newest journal))

    are_low : (jobs' : Actor → JobState) (floors' : Actor → Stamp) (attempt : ℕ) → IsWith m jobs jobs' who (after_turn entry.stamp k attempt (jobs who)) → OneStampChanges floors floors' who entry.stamp → AreLow m (entry ∷ journal) sources jobs' floors'
    are_low jobs' floors' attempt w moved = record {
      newest = entry_low;
      of_each = λ s. omega (arith, g.low.of_each s);
      of_jobs = jobs_low m jobs jobs' who (after_turn entry.stamp k attempt (jobs who)) (entry_count journal sources) (entry_count (entry ∷ journal) sources) w entry_low (omega arith) g.low.of_jobs;
      of_actors = floors_low floors floors' who entry.stamp (entry_count journal sources) (entry_count (entry ∷ journal) sources) moved entry_low (omega arith) g.low.of_actors;
    }

    -- the time is what it was
    is_bounded : IsBounded (entry ∷ journal) sources
    is_bounded = record {
      time = omega (arith, time_preserved k (time_of (entries journal)), g.near.time);
      expiries = λ s. subst (λ (t : ℕ). EndsBy (t + 86400000) (expiry (histories sources s))) (sym (time_preserved k (time_of (entries journal)))) (g.near.expiries s);
    }

    -- after a turn of an actor that has made its calls the run goes on
    pub going_turn : (jobs' : Actor → JobState) (floors' : Actor → Stamp) (stamp : Stamp) (attempt : ℕ) → stamp ≡ next_stamp journal (floors who) word → attempt ≡ attempts (entries (entry ∷ journal))
        → IsWith m jobs jobs' who (after_turn stamp k attempt (jobs who)) → OneStampChanges floors floors' who stamp
        → is_word64 (time_of (entries journal)) ≡ true → is_ranged k ≡ true → IsGoing m (entry ∷ journal) sources jobs' floors'
    going_turn jobs' floors' stamp attempt s begun w moved timed ranged =
        let here : OneStampChanges floors floors' who entry.stamp = subst (OneStampChanges floors floors' who) s moved in
        goes_on who entry turned jobs' floors' (record { own = own_known who entry turned floors' here; jumps = jumps_known floors' here }) (are_jobs jobs' stamp attempt begun w)
        (both _ _ (both _ _ timed (actor_told m who a)) ranged)
        (are_low jobs' floors' attempt (subst (λ (x : Stamp). IsWith m jobs jobs' who (after_turn x k attempt (jobs who))) s w) here) is_bounded

-- ---- with one worker

-- one actor's stamp, while all others know another
abbrev pub moved_one : Stamp → Actor → Stamp → Actor → Stamp
moved_one floor who stamp other = cond (is_same who other) stamp floor

pub is_moved_one : (floor : Stamp) (who : Actor) (stamp : Stamp) → OneStampChanges (λ other. floor) (moved_one floor who stamp) who stamp
is_moved_one floor who stamp = record {
  same = ap (λ (b : Bool). cond b stamp floor) (same_actor who);
  others = λ other is. ap (λ (b : Bool). cond b stamp floor) is;
}

-- all come to know what one knows, if that is no less
pub all_raised : (m : Machine) (journal : List JournalEntry) (sources : List SourceState) (jobs : Actor → JobState) (floor : Stamp) (who : Actor) (stamp : Stamp) → floor.tick ≤ stamp.tick → floor.pos ≤ stamp.pos
    → IsGoing m journal sources jobs (moved_one floor who stamp) → IsRunning m journal sources jobs stamp
all_raised m journal sources jobs floor who stamp tick pos g =
    raised m journal sources jobs (moved_one floor who stamp) (λ other. stamp) (λ other. ticks (is_same who other)) (λ other. places (is_same who other))
    (λ other. subst (λ (x : Stamp). x.tick ≤ entry_count journal sources) (is_moved_one floor who stamp).same (g.low.of_actors who)) g
  where
    ticks : (b : Bool) → (cond b stamp floor).tick ≤ stamp.tick
    ticks true = omega arith
    ticks false = tick

    places : (b : Bool) → (cond b stamp floor).pos ≤ stamp.pos
    places true = omega arith
    places false = pos

module _ (m : Machine) (journal : List JournalEntry) (sources : List SourceState) (jobs : Actor → JobState) {floor : Stamp} (r : IsRunning m journal sources jobs floor) where
  -- after a turn the run goes on
  pub running_turn : (who : Actor) (word : EventNow) (k : Kind) → IsActor m who → calls_made m sources who ≡ calls_due m who (entries journal) → floor.pos ≤ position word → (last_stamp journal).pos ≤ position word
      → JournalPart m (entries (made_entry journal who word floor k ∷ journal)) → (jobs' : Actor → JobState) (stamp : Stamp) (attempt : ℕ) → stamp ≡ next_stamp journal floor word
      → attempt ≡ attempts (entries (made_entry journal who word floor k ∷ journal)) → IsWith m jobs jobs' who (after_turn stamp k attempt (jobs who))
      → is_word64 (time_of (entries journal)) ≡ true → is_ranged k ≡ true → IsRunning m (made_entry journal who word floor k ∷ journal) sources jobs' stamp
  running_turn who word k a made low last legal jobs' stamp attempt s begun w timed ranged =
      all_raised m (made_entry journal who word floor k ∷ journal) sources jobs' floor who stamp (omega (arith, ap (λ (x : Stamp). x.tick) s)) (omega (arith, low, ap (λ (x : Stamp). x.pos) s))
      (going_turn m journal sources jobs r who word k a made low last legal jobs' (moved_one floor who stamp) stamp attempt s begun w (is_moved_one floor who stamp) timed ranged)

  -- ---- a jump of time

  module _ (word : EventNow) (to : ℕ) (step : JumpStep m (entries journal) (histories sources) word to) (low : floor.pos ≤ position word)
      (legal : JournalPart m (entries (jump_entry journal word to floor ∷ journal))) where
    abbrev jump : JournalEntry
    jump = jump_entry journal word to floor

    may_leap : MayLeap m (made_so journal sources r.own) floor jump
    may_leap = record {
      invariant = r.invariant;
      by = refl;
      leaps = refl;
      step = subst (λ (xs : List Entry). JumpStep m xs (histories sources) word to) (entries_unstamped journal) step;
      legal = subst (JournalPart m) (entries_unstamped (jump ∷ journal)) legal;
      all = all_known m journal sources jobs r;
      own = r.floors_know.own actor.Time;
      behind = record { tick = omega arith; pos = low };
    }

    leapt : IsTurned m (made_so journal sources r.own) (with_entry jump (made_so journal sources r.own)) actor.Time jump
    leapt = leap_grows m (made_so journal sources r.own) floor jump may_leap

    time_same : (who : Actor) → IsActor m who → is_same actor.Time who ≡ false
    time_same (actor.Script i) h = refl
    time_same actor.Auto h = refl
    time_same (actor.Dev d) h = refl
    time_same (actor.Timer s) h = absurd h
    time_same actor.Time h = absurd h

    own_all : (other : Actor) (b : Bool) → is_same actor.Time other ≡ b → knows jump.stamp ((with_entry jump (made_so journal sources r.own)).own other) ≡ true
    own_all other true is = ap (λ (x : Actor). knows jump.stamp ((with_entry jump (made_so journal sources r.own)).own x)) (sym (actor_is actor.Time other is)) ∙ leapt.own
    own_all other false is = ap (knows jump.stamp) (leapt.others_own other is) ∙ knows_more floor jump.stamp (r.own other) (omega arith) low (r.floors_know.own other)

    -- the moment is at most a day ahead
    ahead : to ≤ time_of (entries journal) + 86400000
    ahead = subst (λ (o : Option ℕ). EndsBy (time_of (entries journal) + 86400000) o) step.least (are_bounded m r.accepted (entries journal) (histories sources) legal.1 r.near.expiries)

    near : IsBounded (jump ∷ journal) sources
    near = record {
      time = omega (arith, ahead, r.near.time);
      expiries = λ s. ends_later (time_of (entries journal) + 86400000) (to + 86400000) (expiry (histories sources s)) (omega (arith, legal.0.1)) (r.near.expiries s);
    }

    jump_low : jump.stamp.tick ≤ entry_count (jump ∷ journal) sources
    jump_low = omega (arith, r.low.newest, r.low.of_actors actor.Time, ap (λ (s : Stamp). s.tick) (last_newest journal))

    low_after : AreLow m (jump ∷ journal) sources jobs (λ other. jump.stamp)
    low_after = record {
      newest = jump_low;
      of_each = λ s. omega (arith, r.low.of_each s);
      of_jobs = λ other a. omega (arith, r.low.of_jobs other a);
      of_actors = λ other. jump_low;
    }

    -- after a jump the run goes on, and all know it
    pub running_jump : (stamp : Stamp) → stamp ≡ next_stamp journal floor word → is_word64 to ≡ true → IsRunning m (jump ∷ journal) sources jobs stamp
    running_jump stamp s timed =
        subst (λ (x : Stamp). IsRunning m (jump ∷ journal) sources jobs x) (sym s)
        (goes_on m journal sources jobs r actor.Time jump leapt jobs (λ other. jump.stamp)
        (record {
          own = λ other. own_all other (is_same actor.Time other) refl;
          jumps = λ other. (
            λ leaps. knows_itself jump [] jump.stamp refl (leaves jump refl),
            each_by (λ jump'. knows floor (jump' ∷ []) ≡ true) (λ jump'. knows jump.stamp (jump' ∷ []) ≡ true) journal (λ jump'. knows_more floor jump.stamp (jump' ∷ []) (omega arith) low) (r.floors_know.jumps other),
          );
        })
        (λ other b. other_entry m other jump.entry (entries journal) (calls_made m sources other) (jobs other) (time_same other b) (r.jobs_are other b))
        (both _ _ (both _ _ timed refl) refl) low_after near)
