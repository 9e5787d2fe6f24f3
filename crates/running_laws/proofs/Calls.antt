-- Calls on sources preserve the invariant of a run.
use Rattle.std.proofs.Common.{◌≡◌, ◌≤◌, ◌<◌, ◌+◌, ◌∙◌, ℕ, zero, suc, Bool, true, false, ◌==◌, nat_le, List, [], ◌∷◌, length, map, slice_set, slice_index_or, refl, sym, ap, ap₂, subst, arith}
use Rattle.std.specs.List.{list_all}
use Rattle.std.proofs.lemmas.Bool.Decides.{nat_tests}
use Rattle.sleep_model.specs.declared.entry.Actor.{Actor}
use Rattle.sleep_model.specs.declared.entry.Entry.{Entry}
use Rattle.sleep_model.specs.declared.entry.JournalEntry.{JournalEntry}
use Rattle.sleep_model.specs.declared.machine.Machine.{Machine}
use Rattle.sleep_model.specs.declared.machine.SourceCall.{SourceCall}
use Rattle.sleep_model.specs.declared.word.EventNow.{EventNow}
use Rattle.sleep_model.specs.declared.word.Stamp.{Stamp}
use Rattle.sleep_model.specs.declared.word.WordKind.{WordKind}
use Rattle.sleep_model.specs.declared.word.WordKind.TheVariants as step
use Rattle.sleep_model.specs.Calls.{calls_of, is_note_of, made, note, notes_of, one_more}
use Rattle.sleep_model.specs.Fits.{fits_actor, is_word64}
use Rattle.sleep_model.specs.Merge.{of_source}
use Rattle.sleep_model.specs.Numbers.{time_of}
use Rattle.sleep_model.specs.EntryClasses.{EntryClass, class_of}
use Rattle.sleep_model.specs.Path.{is_same}
use Rattle.sleep_model.specs.Sources.{expiry, makes, since}
use Rattle.end_laws.specs.Moments.{ExpiriesAreBounded}
use Rattle.end_laws.proofs.Lasting.{IsBrief}
use Rattle.sleep_model.specs.Word.{position}
use Rattle.sleep_state.specs.JournalRooms.{entries}
use Rattle.sleep_core.specs.Cores.{IsActor}
use Rattle.sleep_script.specs.Jobs.{IsJobOf, JobState, after_call}
use Rattle.sleep_script.proofs.Following.{call_made}
use Rattle.wakeup_source.specs.declared.call_by.CallBy.{CallBy}
use Rattle.wakeup_source.specs.Called.{Calls, SourceView, Steps, after_note, after_step}
use Rattle.wakeup_source.specs.SourceStates.{IsSettled, SourceState, step_kind}
use Rattle.wakeup_source.specs.SourceStates as states
use Rattle.wakeup_source.specs.Shown.{MayCall}
use Rattle.room_laws.specs.Ranged.{is_ranged, is_ranged_entry}
use Rattle.log_merge.proofs.Reading.{both}
use Rattle.log_merge.specs.Remainders.{unstamped}
use Rattle.run_laws.specs.Apart.{IsCall}
use Rattle.run_laws.specs.Acts.{Made}
use Rattle.run_laws.specs.Called.{IsCalled, IsReady, knows}
use Rattle.run_laws.specs.Invariant.{EachJump, RunInvariant}
use Rattle.run_laws.proofs.Acts.{actor_is}
use Rattle.run_laws.specs.Seated.{IsFresh}
use Rattle.run_laws.specs.Turned.{newest_stamp}
use Rattle.run_laws.proofs.Called.{unstamped_same, call_grows, class_note}
use Rattle.run_laws.proofs.Seated.{call_fresh}
use Rattle.running_laws.specs.Running.{AreJobs, FloorsKnow, IsGoing, OneStampChanges, IsRunning, IsSourceOf, IsWith, calls_made, entry_count, histories, made_so, of_sources}
use Rattle.running_laws.proofs.Invariant.{calls_are_notes, free}
use Rattle.running_laws.proofs.Known.{knows_more}
use Rattle.running_laws.proofs.Turns.{all_raised, is_moved_one, moved_one}
use Rattle.run_laws.proofs.Invariant.{each_by}
use Rattle.running_laws.proofs.Lists.{entries_unstamped, source_at, source_other, source_set, sources_set}
use Rattle.running_laws.proofs.Rising.{EndsBy, call_brief, call_ends, call_longer, call_rises, entries_set, floors_low, jobs_low, newest_is}

-- ---- what a call adds

-- a source's entries as the log has them
abbrev noted : SourceState → List JournalEntry
noted source = map of_source source.past

class_step : (s : ℕ) (x : WordKind) (who : Actor) (e : Entry) → is_note_of who e (class_of (step_kind s x)) ≡ false
class_step s step.Start who e = refl
class_step s step.Finish who e = refl
class_step s step.Hard who e = refl

-- the steps of a call leave its floor no lower, its number, and the notes of everybody
record AreCallSteps (old new : SourceState) : Type 0 where
  tick : old.floor.tick ≤ new.floor.tick
  pos : old.floor.pos ≤ new.floor.pos
  number : new.id ≡ old.id
  notes : (who : Actor) → notes_of who (unstamped (noted new)) ≡ notes_of who (unstamped (noted old))

steps_are : (by : CallBy) (steps : List WordKind) (old new : SourceView) → old.floor ≡ old.source.floor.pos → Steps by steps old new → AreCallSteps old.source new.source
steps_are by [] old new f h =
    let same : new.source ≡ old.source = ap (λ (s : SourceView). s.source) h in
    record {
      tick = omega (arith, ap (λ (s : SourceState). s.floor.tick) same);
      pos = omega (arith, ap (λ (s : SourceState). s.floor.pos) same);
      number = ap (λ (s : SourceState). s.id) same;
      notes = λ who. ap (λ (s : SourceState). notes_of who (unstamped (noted s))) same;
    }
steps_are by (x ∷ rest) old new f h =
    let behind = steps_are by rest (after_step by x h.0 old) new refl h.3 in
    let low : old.source.floor.pos ≤ position h.0 = subst (λ (n : ℕ). n ≤ position h.0) f h.2 in
    record {
      tick = omega (arith, behind.tick);
      pos = omega (arith, behind.pos, low);
      number = behind.number;
      notes = λ who. behind.notes who ∙ ap (λ (b : Bool). one_more b (notes_of who (unstamped (noted old.source)))) (class_step old.source.id x who (states.step_entry old.source.id x by.actor by.now h.0));
    }

-- a call leaves a floor that is no lower than its caller's, its number, and one note more of its caller
record IsOneCall (by : CallBy) (old new : SourceState) : Type 0 where
  tick : by.floor.tick ≤ new.floor.tick
  pos : by.floor.pos ≤ new.floor.pos
  number : new.id ≡ old.id
  notes : (who : Actor) → notes_of who (unstamped (noted new)) ≡ one_more (is_same by.actor who) (notes_of who (unstamped (noted old)))

one_call : (by : CallBy) (c : SourceCall) (old new : SourceView) → Calls by c old new → IsOneCall by old.source new.source
one_call by c old new h =
    let seen : EventNow = h.1.0 in
    let is : h.0 ≡ after_note by c seen h.0.looked old = h.1.6 in
    let steps = steps_are by (makes c (since (states.unstamped_source old.source.past))) (after_note by c seen h.0.looked old) new refl
    (subst (λ (s : SourceView). Steps by (makes c (since (states.unstamped_source old.source.past))) s new) is h.2) in
    let low : by.floor.pos ≤ position seen = h.1.4 in
    record {
      tick = omega (arith, steps.tick);
      pos = omega (arith, steps.pos, low);
      number = steps.number;
      notes = λ who. steps.notes who
          ∙ ap (λ (p : EntryClass). one_more (is_note_of who (states.note_entry old.source.id c by.actor by.now seen) p) (notes_of who (unstamped (noted old.source)))) (class_note old.source.id c);
    }

-- ---- how many calls were made

same_sum : (n : ℕ) (of other : ℕ → List Entry) (who : Actor) → ((t : ℕ) → t < n → other t ≡ of t) → made n other who ≡ made n of who
same_sum zero of other who h = refl
same_sum (suc n) of other who h = ap₂ (λ (a b : ℕ). a + b) (ap (notes_of who) (h n (omega arith))) (same_sum n of other who (λ t l. h t (omega (arith, l))))

more_first : (b : Bool) (x y z : ℕ) → x ≡ one_more b y → x + z ≡ one_more b (y + z)
more_first true x y z e = omega (arith, e)
more_first false x y z e = omega (arith, e)

more_second : (b : Bool) (x y z : ℕ) → y ≡ one_more b z → x + y ≡ one_more b (x + z)
more_second true x y z e = omega (arith, e)
more_second false x y z e = omega (arith, e)

-- one history has one note more
made_more : (n s : ℕ) (of other : ℕ → List Entry) (who : Actor) (b : Bool) → s < n → ((t : ℕ) → (s == t) ≡ false → other t ≡ of t) → notes_of who (other s) ≡ one_more b (notes_of who (of s))
    → made n other who ≡ one_more b (made n of who)
made_more zero s of other who b l h g = absurd (omega arith)
made_more (suc n) s of other who b l h g = by (s == n) refl (λ k. made_more n s of other who b k h g)
  where
    by : (c : Bool) → (s == n) ≡ c → (s < n → made n other who ≡ one_more b (made n of who)) → notes_of who (other n) + made n other who ≡ one_more b (notes_of who (of n) + made n of who)
    by true is before =
        let same : s ≡ n = grind (arith, nat_tests) in
        let here : notes_of who (other n) ≡ one_more b (notes_of who (of n)) = subst (λ (k : ℕ). notes_of who (other k) ≡ one_more b (notes_of who (of k))) same g in
        ap (λ (k : ℕ). notes_of who (other n) + k) (same_sum n of other who (λ t k. h t (let apart : (s == t) ≡ false = grind (arith, nat_tests) in apart)))
        ∙ more_first b (notes_of who (other n)) (notes_of who (of n)) (made n of who) here
    by false is before =
        let within : s < n = grind (arith, nat_tests) in
        ap (λ (own : List Entry). notes_of who own + made n other who) (h n is) ∙ more_second b (notes_of who (of n)) (made n other who) (made n of who) (before within)

-- ---- what entries say

moves_told : (m : Machine) (s : ℕ) (x : WordKind) (who : Actor) (time : ℕ) (before : EventNow) → is_word64 time ≡ true → fits_actor m who ≡ true → is_ranged_entry m (states.step_entry s x who time before) ≡ true
moves_told m s step.Start who time before timed acts = both _ _ (both _ _ timed acts) refl
moves_told m s step.Finish who time before timed acts = both _ _ (both _ _ timed acts) refl
moves_told m s step.Hard who time before timed acts = both _ _ (both _ _ timed acts) refl

steps_told : (m : Machine) (by : CallBy) (steps : List WordKind) (old new : SourceView) → is_word64 by.now ≡ true → fits_actor m by.actor ≡ true → Steps by steps old new
    → list_all (λ e. is_ranged_entry m e.entry) (noted old.source) ≡ true → list_all (λ e. is_ranged_entry m e.entry) (noted new.source) ≡ true
steps_told m by [] old new timed acts h shown = ap (λ (s : SourceView). list_all (λ e. is_ranged_entry m e.entry) (noted s.source)) h ∙ shown
steps_told m by (x ∷ rest) old new timed acts h shown =
    steps_told m by rest (after_step by x h.0 old) new timed acts h.3
    (both (is_ranged_entry m (states.step_entry old.source.id x by.actor by.now h.0)) (list_all (λ e. is_ranged_entry m e.entry) (noted old.source)) (moves_told m old.source.id x by.actor by.now h.0 timed acts) shown)

call_told : (m : Machine) (by : CallBy) (c : SourceCall) (old new : SourceView) → is_word64 by.now ≡ true → fits_actor m by.actor ≡ true → is_ranged (note old.source.id c) ≡ true → Calls by c old new
    → list_all (λ e. is_ranged_entry m e.entry) (noted old.source) ≡ true → list_all (λ e. is_ranged_entry m e.entry) (noted new.source) ≡ true
call_told m by c old new timed acts ranged h shown =
    let seen : EventNow = h.1.0 in
    let is : h.0 ≡ after_note by c seen h.0.looked old = h.1.6 in
    steps_told m by (makes c (since (states.unstamped_source old.source.past))) (after_note by c seen h.0.looked old) new timed acts
    (subst (λ (s : SourceView). Steps by (makes c (since (states.unstamped_source old.source.past))) s new) is h.2)
    (both (is_ranged_entry m (states.note_entry old.source.id c by.actor by.now seen)) (list_all (λ e. is_ranged_entry m e.entry) (noted old.source)) (both _ _ (both _ _ timed acts) ranged) shown)

-- ---- a call

module _ (m : Machine) (journal : List JournalEntry) (sources : List SourceState) (jobs : Actor → JobState) {floors : Actor → Stamp} (r : IsGoing m journal sources jobs floors) where
  abbrev past : Made
  past = made_so journal sources r.own

  -- a source of the machine is called by an actor whose call is next, at the journal's time
  pub record IsCalledNow (s : ℕ) (by : CallBy) (c : SourceCall) (old new : SourceView) : Type 0 where
    pub there : s ≤ length m.sources
    pub old_is : old.source ≡ slice_index_or sources s old.source
    pub next : IsCall by.actor (calls_of m by.actor (entries journal)) (calls_made m sources by.actor) (note s c)
    pub may : MayCall c (states.unstamped_source old.source.past) by.now
    pub floor_is : by.floor ≡ floors by.actor
    pub time_is : by.now ≡ time_of (entries journal)
    pub calls : Calls by c old new
    pub settled : IsSettled new.source
    pub timed : is_word64 by.now ≡ true
    pub acts : fits_actor m by.actor ≡ true
    pub ranged : is_ranged (note s c) ≡ true

  module _ (s : ℕ) (by : CallBy) (c : SourceCall) (old new : SourceView) (h : IsCalledNow s by c old new) where
    abbrev sources' : List SourceState
    sources' = slice_set sources s new.source

    within : s < length sources
    within = omega (arith, h.there, r.sources_are.count)

    here : IsSourceOf s old.source
    here = subst (IsSourceOf s) (sym h.old_is) (r.sources_are.each s old.source within)

    of_old : of_sources sources s ≡ noted old.source
    of_old = source_at sources s old.source within ∙ ap noted (sym h.old_is)

    one : IsOneCall by old.source new.source
    one = one_call by c old new h.calls

    new_number : new.source.id ≡ s
    new_number = one.number ∙ here.number

    ready : IsReady m past by c old.source
    ready = record {
      invariant = r.invariant;
      entries = ap (of_sources sources) here.number ∙ of_old;
      settled = here.settled;
      there = ap (λ (n : ℕ). nat_le n (length m.sources)) here.number ∙ (let l = h.there in let is : nat_le s (length m.sources) ≡ true = grind (arith, nat_tests) in is);
      free = free m journal sources jobs r by.actor;
      next = subst (λ (n : ℕ). IsCall by.actor (calls_of m by.actor (unstamped journal)) (notes_of by.actor (unstamped (r.own by.actor))) (note n c)) (sym here.number)
          (subst (λ (n : ℕ). IsCall by.actor (calls_of m by.actor (unstamped journal)) n (note s c)) (calls_are_notes m journal sources jobs r by.actor)
          (subst (λ (xs : List Entry). IsCall by.actor (calls_of m by.actor xs) (calls_made m sources by.actor) (note s c)) (entries_unstamped journal) h.next));
      may = h.may;
      own = ap (λ (f : Stamp). knows f (r.own by.actor)) h.floor_is ∙ r.floors_know.own by.actor;
      jumps = subst (λ (f : Stamp). EachJump (λ jump. knows f (jump ∷ []) ≡ true) journal) (sym h.floor_is) (r.floors_know.jumps by.actor);
      time = h.time_is ∙ ap time_of (entries_unstamped journal);
    }

    grown : (after : Made) × IsCalled m past after by new.source
    grown = call_grows m past by c old new ready h.calls

    of_new : (t : ℕ) → grown.0.of t ≡ of_sources sources' t
    of_new t = is (s == t) refl
      where
        is : (b : Bool) → (s == t) ≡ b → grown.0.of t ≡ of_sources sources' t
        is true e =
            let same : s ≡ t = grind (arith, nat_tests) in
            subst (λ (n : ℕ). grown.0.of n ≡ of_sources sources' n) same
            (ap grown.0.of (sym new_number) ∙ (grown.1.entries ∙ sym (source_set sources s new.source within)))
        is false e = grown.1.others t (ap (λ (n : ℕ). n == t) new_number ∙ e) ∙ sym (source_other sources s t new.source e)

    is_so : grown.0 ≡ made_so journal sources' grown.0.own
    is_so = λ i. record { journal = grown.1.journal i; of = λ t. of_new t i; own = grown.0.own }

    tick : (floors by.actor).tick ≤ new.source.floor.tick
    tick = omega (arith, one.tick, ap (λ (f : Stamp). f.tick) h.floor_is)

    pos : (floors by.actor).pos ≤ new.source.floor.pos
    pos = omega (arith, one.pos, ap (λ (f : Stamp). f.pos) h.floor_is)

    -- the caller's stamp is the call's, and the others' know as much as they knew
    known : (floors' : Actor → Stamp) → OneStampChanges floors floors' by.actor new.source.floor → FloorsKnow floors' (made_so journal sources' grown.0.own)
    known floors' w = record {
      own = λ other. by_own other (is_same by.actor other) refl;
      jumps = λ other. by_jump other (is_same by.actor other) refl;
    }
      where
        by_own : (other : Actor) (b : Bool) → is_same by.actor other ≡ b → knows (floors' other) (grown.0.own other) ≡ true
        by_own other true e =
            ap (λ (x : Actor). knows (floors' x) (grown.0.own x)) (sym (actor_is by.actor other e))
            ∙ (ap (λ (f : Stamp). knows f (grown.0.own by.actor)) w.same ∙ grown.1.own)
        by_own other false e = ap₂ knows (w.others other e) (grown.1.others_own other e) ∙ r.floors_know.own other

        by_jump : (other : Actor) (b : Bool) → is_same by.actor other ≡ b → EachJump (λ jump. knows (floors' other) (jump ∷ []) ≡ true) journal
        by_jump other true e =
            subst (λ (x : Actor). EachJump (λ jump. knows (floors' x) (jump ∷ []) ≡ true) journal) (actor_is by.actor other e)
            (subst (λ (f : Stamp). EachJump (λ jump. knows f (jump ∷ []) ≡ true) journal) (sym w.same)
            (each_by (λ jump. knows (floors by.actor) (jump ∷ []) ≡ true) (λ jump. knows new.source.floor (jump ∷ []) ≡ true) journal
            (λ jump. knows_more (floors by.actor) new.source.floor (jump ∷ []) tick pos) (r.floors_know.jumps by.actor)))
        by_jump other false e = subst (λ (f : Stamp). EachJump (λ jump. knows f (jump ∷ []) ≡ true) journal) (sym (w.others other e)) (r.floors_know.jumps other)

    shown : (t : ℕ) → list_all (λ e. is_ranged_entry m e.entry) (of_sources sources' t) ≡ true
    shown t = is (s == t) refl
      where
        is : (b : Bool) → (s == t) ≡ b → list_all (λ e. is_ranged_entry m e.entry) (of_sources sources' t) ≡ true
        is true e =
            let same : s ≡ t = grind (arith, nat_tests) in
            subst (λ (n : ℕ). list_all (λ e. is_ranged_entry m e.entry) (of_sources sources' n) ≡ true) same
            (ap (list_all (λ e. is_ranged_entry m e.entry)) (source_set sources s new.source within)
            ∙ call_told m by c old new h.timed h.acts (ap (λ (n : ℕ). is_ranged (note n c)) here.number ∙ h.ranged) h.calls (ap (list_all (λ e. is_ranged_entry m e.entry)) (sym of_old) ∙ r.shown.1 s))
        is false e = ap (list_all (λ e. is_ranged_entry m e.entry)) (source_other sources s t new.source e) ∙ r.shown.1 t

    -- the caller has made one call more
    made_now : (who : Actor) → calls_made m sources' who ≡ one_more (is_same by.actor who) (calls_made m sources who)
    made_now who =
        made_more (length m.sources + 1) s (histories sources) (histories sources') who (is_same by.actor who) (omega (arith, h.there)) (λ t e. ap unstamped (source_other sources s t new.source e))
        (ap (λ (l : List JournalEntry). notes_of who (unstamped l)) (source_set sources s new.source within)
        ∙ (one.notes who ∙ ap (λ (l : List JournalEntry). one_more (is_same by.actor who) (notes_of who (unstamped l))) (sym of_old)))

    -- ---- how far ticks and expiries have come

    new_fresh : IsFresh new.source
    new_fresh = call_fresh by c old new h.calls

    -- there are more entries
    counted : entry_count journal sources' + length old.source.past ≡ entry_count journal sources + length new.source.past
    counted =
        let is : slice_index_or sources s old.source ≡ old.source = sym h.old_is in
        omega (arith, entries_set sources s old.source new.source within, ap (λ (x : SourceState). length x.past) is)

    more : entry_count journal sources ≤ entry_count journal sources'
    more = omega (arith, counted, call_longer by c old new h.calls)

    new_low : new.source.floor.tick ≤ entry_count journal sources'
    new_low =
        omega (
          arith,
          counted,
          call_rises by c old new h.calls,
          here.fresh,
          newest_is old.source.past,
          ap (λ (l : List JournalEntry). (newest_stamp l).tick) of_old,
          r.low.of_each s,
          ap (λ (f : Stamp). f.tick) h.floor_is,
          r.low.of_actors by.actor,
        )

    each_low : (t : ℕ) → (newest_stamp (of_sources sources' t)).tick ≤ entry_count journal sources'
    each_low t = is (s == t) refl
      where
        is : (b : Bool) → (s == t) ≡ b → (newest_stamp (of_sources sources' t)).tick ≤ entry_count journal sources'
        is true e =
            let same : s ≡ t = grind (arith, nat_tests) in
            subst (λ (n : ℕ). (newest_stamp (of_sources sources' n)).tick ≤ entry_count journal sources') same
            (omega (arith, new_low, new_fresh, newest_is new.source.past, ap (λ (l : List JournalEntry). (newest_stamp l).tick) (source_set sources s new.source within)))
        is false e = omega (arith, more, r.low.of_each t, ap (λ (l : List JournalEntry). (newest_stamp l).tick) (source_other sources s t new.source e))

    each_bounded : ExpiriesAreBounded (entries journal) (histories sources')
    each_bounded t = is (s == t) refl
      where
        brief : IsBrief (note old.source.id c)
        brief = subst (λ (n : ℕ). IsBrief (note n c)) (sym here.number) (call_brief m r.accepted by.actor (entries journal) (calls_made m sources by.actor) s c h.next)

        was : EndsBy (time_of (entries journal) + 86400000) (expiry (states.unstamped_source old.source.past))
        was = subst (λ (xs : List Entry). EndsBy (time_of (entries journal) + 86400000) (expiry xs)) (ap unstamped of_old ∙ sym (unstamped_same old.source.past)) (r.near.expiries s)

        is : (b : Bool) → (s == t) ≡ b → EndsBy (time_of (entries journal) + 86400000) (expiry (histories sources' t))
        is true e =
            let same : s ≡ t = grind (arith, nat_tests) in
            subst (λ (n : ℕ). EndsBy (time_of (entries journal) + 86400000) (expiry (histories sources' n))) same
            (subst (λ (xs : List Entry). EndsBy (time_of (entries journal) + 86400000) (expiry xs)) (unstamped_same new.source.past ∙ sym (ap unstamped (source_set sources s new.source within)))
            (call_ends (time_of (entries journal) + 86400000) by c old new h.calls brief (omega (arith, h.time_is)) was))
        is false e = subst (λ (l : List JournalEntry). EndsBy (time_of (entries journal) + 86400000) (expiry (unstamped l))) (sym (source_other sources s t new.source e)) (r.near.expiries t)

    -- after a call the run goes on, as its jobs do
    goes_on : (jobs' : Actor → JobState) (floors' : Actor → Stamp) → OneStampChanges floors floors' by.actor new.source.floor → AreJobs m journal sources' jobs'
        → ((who : Actor) → IsActor m who → (jobs' who).floor.tick ≤ entry_count journal sources') → IsGoing m journal sources' jobs' floors'
    goes_on jobs' floors' w are low = record {
      accepted = r.accepted;
      own = grown.0.own;
      invariant = subst (RunInvariant m) is_so grown.1.invariant;
      sources_are = sources_set m sources s new.source within (record { number = new_number; settled = h.settled; fresh = new_fresh }) r.sources_are;
      jobs_are = are;
      floors_know = known floors' w;
      shown = (r.shown.0, shown);
      low = record {
        newest = omega (arith, more, r.low.newest);
        of_each = each_low;
        of_jobs = low;
        of_actors = floors_low floors floors' by.actor new.source.floor (entry_count journal sources) (entry_count journal sources') w new_low more r.low.of_actors;
      };
      near = record { time = r.near.time; expiries = each_bounded };
    }

    called_jobs : (jobs' : Actor → JobState) (stamp : Stamp) → IsActor m by.actor → 0 < length (jobs by.actor).pending → IsWith m jobs jobs' by.actor (after_call stamp (jobs by.actor)) → AreJobs m journal sources' jobs'
    called_jobs jobs' stamp a left w other b = each (is_same by.actor other) refl
      where
        each : (c : Bool) → is_same by.actor other ≡ c → IsJobOf m other (entries journal) (calls_made m sources' other) (jobs' other)
        each true e =
            let more : calls_made m sources' by.actor ≡ calls_made m sources by.actor + 1 =
            made_now by.actor ∙ ap (λ (b : Bool). one_more b (calls_made m sources by.actor)) (ap (λ (w : Actor). is_same by.actor w) (actor_is by.actor other e) ∙ e) in
            subst (λ (x : Actor). IsJobOf m x (entries journal) (calls_made m sources' x) (jobs' x)) (actor_is by.actor other e)
            (subst (λ (n : ℕ). IsJobOf m by.actor (entries journal) n (jobs' by.actor)) (sym more)
            (subst (λ (j : JobState). IsJobOf m by.actor (entries journal) (calls_made m sources by.actor + 1) j) (sym w.same)
            (call_made m by.actor (entries journal) (calls_made m sources by.actor) (jobs by.actor) stamp left (r.jobs_are by.actor a))))
        each false e =
            subst (λ (n : ℕ). IsJobOf m other (entries journal) n (jobs' other)) (sym (made_now other ∙ ap (λ (b : Bool). one_more b (calls_made m sources other)) e))
            (subst (λ (j : JobState). IsJobOf m other (entries journal) (calls_made m sources other) j) (sym (w.others other b e)) (r.jobs_are other b))

    expired_jobs : ((other : Actor) → IsActor m other → is_same by.actor other ≡ false) → AreJobs m journal sources' jobs
    expired_jobs none other b = subst (λ (n : ℕ). IsJobOf m other (entries journal) n (jobs other)) (sym (made_now other ∙ ap (λ (c : Bool). one_more c (calls_made m sources other)) (none other b))) (r.jobs_are other b)

    -- after the call of an actor that has a job
    pub going_call : (jobs' : Actor → JobState) (floors' : Actor → Stamp) (stamp : Stamp) → stamp ≡ new.source.floor → IsActor m by.actor → 0 < length (jobs by.actor).pending
        → IsWith m jobs jobs' by.actor (after_call stamp (jobs by.actor)) → OneStampChanges floors floors' by.actor stamp → IsGoing m journal sources' jobs' floors'
    going_call jobs' floors' stamp is a left w moved =
        goes_on jobs' floors' (subst (OneStampChanges floors floors' by.actor) is moved) (called_jobs jobs' stamp a left w)
        (jobs_low m jobs jobs' by.actor (after_call stamp (jobs by.actor)) (entry_count journal sources) (entry_count journal sources') w (omega (arith, new_low, ap (λ (x : Stamp). x.tick) is)) more r.low.of_jobs)

    -- after an expiry, whose timer has no job
    pub going_expire : (floors' : Actor → Stamp) (stamp : Stamp) → stamp ≡ new.source.floor → ((other : Actor) → IsActor m other → is_same by.actor other ≡ false) → OneStampChanges floors floors' by.actor stamp
        → IsGoing m journal sources' jobs floors'
    going_expire floors' stamp is none moved =
        goes_on jobs floors' (subst (OneStampChanges floors floors' by.actor) is moved) (expired_jobs none) (λ other a. omega (arith, more, r.low.of_jobs other a))

-- ---- with one worker

module _ (m : Machine) (journal : List JournalEntry) (sources : List SourceState) (jobs : Actor → JobState) {floor : Stamp} (r : IsRunning m journal sources jobs floor)
    (s : ℕ) (by : CallBy) (c : SourceCall) (old new : SourceView) (h : IsCalledNow m journal sources jobs r s by c old new) where
  -- after the call of an actor that has a job the run goes on, and all know it
  pub running_call : (jobs' : Actor → JobState) (stamp : Stamp) → stamp ≡ new.source.floor → IsActor m by.actor → 0 < length (jobs by.actor).pending → IsWith m jobs jobs' by.actor (after_call stamp (jobs by.actor))
      → IsRunning m journal (slice_set sources s new.source) jobs' stamp
  running_call jobs' stamp is a left w =
      all_raised m journal (slice_set sources s new.source) jobs' floor by.actor stamp (omega (arith, tick m journal sources jobs r s by c old new h, ap (λ (x : Stamp). x.tick) is))
      (omega (arith, pos m journal sources jobs r s by c old new h, ap (λ (x : Stamp). x.pos) is))
      (going_call m journal sources jobs r s by c old new h jobs' (moved_one floor by.actor stamp) stamp is a left w (is_moved_one floor by.actor stamp))

  -- so after an expiry
  pub running_expire : (stamp : Stamp) → stamp ≡ new.source.floor → ((other : Actor) → IsActor m other → is_same by.actor other ≡ false) → IsRunning m journal (slice_set sources s new.source) jobs stamp
  running_expire stamp is none =
      all_raised m journal (slice_set sources s new.source) jobs floor by.actor stamp (omega (arith, tick m journal sources jobs r s by c old new h, ap (λ (x : Stamp). x.tick) is))
      (omega (arith, pos m journal sources jobs r s by c old new h, ap (λ (x : Stamp). x.pos) is))
      (going_expire m journal sources jobs r s by c old new h (moved_one floor by.actor stamp) stamp is none (is_moved_one floor by.actor stamp))
