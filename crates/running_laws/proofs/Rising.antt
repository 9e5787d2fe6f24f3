-- How far an entry, or a call on a source, brings the number of entries, ticks and expiries.
use Rattle.std.proofs.Common.{◌≡◌, ◌≤◌, ◌<◌, ◌+◌, ℕ, zero, suc, Bool, true, false, ◌==◌, max, List, [], ◌∷◌, length, map, slice_set, slice_index_or, IfSome, Option, Some, None, cond, refl, sym, ap, subst, arith}
use Rattle.std.proofs.lemmas.List.{length-map}
use Rattle.sleep_model.specs.declared.entry.Actor.{Actor}
use Rattle.sleep_model.specs.declared.entry.Actor.TheVariants as actor
use Rattle.sleep_model.specs.declared.entry.Entry.{Entry}
use Rattle.sleep_model.specs.declared.entry.Kind.{Kind}
use Rattle.sleep_model.specs.declared.entry.Kind.TheVariants as kind
use Rattle.sleep_model.specs.declared.entry.SourceEntry.{SourceEntry}
use Rattle.sleep_model.specs.declared.machine.Machine.{Machine}
use Rattle.sleep_model.specs.declared.machine.SourceCall.{SourceCall}
use Rattle.sleep_model.specs.declared.machine.SourceCall.TheVariants as call
use Rattle.sleep_model.specs.declared.word.Stamp.{Stamp}
use Rattle.sleep_model.specs.declared.word.WordKind.{WordKind}
use Rattle.sleep_model.specs.declared.word.WordKind.TheVariants as step
use Rattle.sleep_model.specs.Accepted.{IsAccepted}
use Rattle.sleep_model.specs.Calls.{calls_of, note}
use Rattle.sleep_model.specs.Merge.{of_source}
use Rattle.sleep_model.specs.Numbers.{time_after}
use Rattle.sleep_model.specs.EntryClasses.{class_of}
use Rattle.sleep_model.specs.Path.{is_same}
use Rattle.sleep_model.specs.Sources.{expiry, expiry_after, later, makes, since}
use Rattle.end_laws.proofs.Lasting.{IsBrief, next_brief}
use Rattle.sleep_core.specs.Cores.{IsActor}
use Rattle.sleep_script.specs.Jobs.{JobState}
use Rattle.wakeup_source.specs.declared.call_by.CallBy.{CallBy}
use Rattle.wakeup_source.specs.Called.{Calls, SourceView, Steps, after_note, after_step}
use Rattle.wakeup_source.specs.SourceStates.{SourceState, step_kind}
use Rattle.wakeup_source.specs.SourceStates as states
use Rattle.run_laws.specs.Apart.{IsCall}
use Rattle.run_laws.specs.Seated.{newest_tick}
use Rattle.run_laws.specs.Turned.{newest_stamp}
use Rattle.run_laws.proofs.Acts.{actor_is}
use Rattle.running_laws.specs.Running.{OneStampChanges, IsWith, source_entry_count, of_sources}

-- ---- how many entries sources have

-- one of them is another
pub entries_set : (sources : List SourceState) (s : ℕ) (none new : SourceState) → s < length sources → source_entry_count (slice_set sources s new) + length (slice_index_or sources s none).past ≡ source_entry_count sources + length new.past
entries_set [] s none new l = absurd (omega arith)
entries_set (x ∷ sources) zero none new l = omega arith
entries_set (x ∷ sources) (suc s) none new l = omega (arith, entries_set sources s none new (omega (arith, l)))

-- each has no fewer
pub entries_more : (xs ys : List SourceState) → length xs ≡ length ys → ((s : ℕ) → length (of_sources xs s) ≤ length (of_sources ys s)) → source_entry_count xs ≤ source_entry_count ys
entries_more [] ys l h = omega arith
entries_more (x ∷ xs) [] l h = absurd (omega (arith, l))
entries_more (x ∷ xs) (y ∷ ys) l h =
    omega (arith, h 0, length-map x.past of_source, length-map y.past of_source, entries_more xs ys (omega (arith, l)) (λ s. h (suc s)))

steps_longer : (by : CallBy) (steps : List WordKind) (old new : SourceView) → Steps by steps old new → length old.source.past ≤ length new.source.past
steps_longer by [] old new h = omega (arith, ap (λ (s : SourceView). length s.source.past) h)
steps_longer by (x ∷ rest) old new h = omega (arith, steps_longer by rest (after_step by x h.0 old) new h.3)

-- a call adds its note at least
pub call_longer : (by : CallBy) (c : SourceCall) (old new : SourceView) → Calls by c old new → length old.source.past < length new.source.past
call_longer by c old new h =
    let is : h.0 ≡ after_note by c h.1.0 h.0.looked old = h.1.6 in
    omega (arith, steps_longer by (makes c (since (states.unstamped_source old.source.past))) h.0 new h.2, ap (λ (s : SourceView). length s.source.past) is)

-- ---- ticks

-- the tick of the newest entry, defined in two ways
pub newest_is : (past : List SourceEntry) → newest_tick past ≡ (newest_stamp (map of_source past)).tick
newest_is [] = refl
newest_is (e ∷ past) = refl

steps_rise : (by : CallBy) (steps : List WordKind) (old new : SourceView) → Steps by steps old new → new.source.floor.tick + length old.source.past ≡ old.source.floor.tick + length new.source.past
steps_rise by [] old new h = omega (arith, ap (λ (s : SourceView). s.source.floor.tick) h, ap (λ (s : SourceView). length s.source.past) h)
steps_rise by (x ∷ rest) old new h = omega (arith, steps_rise by rest (after_step by x h.0 old) new h.3)

-- by a call ticks rise as far as there are more entries
pub call_rises : (by : CallBy) (c : SourceCall) (old new : SourceView) → Calls by c old new → new.source.floor.tick + length old.source.past ≡ max by.floor.tick old.source.floor.tick + length new.source.past
call_rises by c old new h =
    let is : h.0 ≡ after_note by c h.1.0 h.0.looked old = h.1.6 in
    omega (
      arith,
      steps_rise by (makes c (since (states.unstamped_source old.source.past))) h.0 new h.2,
      ap (λ (s : SourceView). s.source.floor.tick) is,
      ap (λ (s : SourceView). length s.source.past) is,
    )

-- one actor knows another stamp, and the others know what they knew
pub floors_low : (floors floors' : Actor → Stamp) (who : Actor) (stamp : Stamp) (n k : ℕ) → OneStampChanges floors floors' who stamp → stamp.tick ≤ k → n ≤ k → ((other : Actor) → (floors other).tick ≤ n)
    → (other : Actor) → (floors' other).tick ≤ k
floors_low floors floors' who stamp n k w low more all other = by (is_same who other) refl
  where
    by : (b : Bool) → is_same who other ≡ b → (floors' other).tick ≤ k
    by true is = subst (λ (x : Actor). (floors' x).tick ≤ k) (actor_is who other is) (subst (λ (f : Stamp). f.tick ≤ k) (sym w.same) low)
    by false is = subst (λ (f : Stamp). f.tick ≤ k) (sym (w.others other is)) (omega (arith, all other, more))

-- so do jobs
pub jobs_low : (m : Machine) (jobs jobs' : Actor → JobState) (who : Actor) (job : JobState) (n k : ℕ) → IsWith m jobs jobs' who job → job.floor.tick ≤ k → n ≤ k → ((other : Actor) → IsActor m other → (jobs other).floor.tick ≤ n)
    → (other : Actor) → IsActor m other → (jobs' other).floor.tick ≤ k
jobs_low m jobs jobs' who job n k w low more all other a = by (is_same who other) refl
  where
    by : (b : Bool) → is_same who other ≡ b → (jobs' other).floor.tick ≤ k
    by true is = subst (λ (x : Actor). (jobs' x).floor.tick ≤ k) (actor_is who other is) (subst (λ (j : JobState). j.floor.tick ≤ k) (sym w.same) low)
    by false is = subst (λ (j : JobState). j.floor.tick ≤ k) (sym (w.others other a is)) (omega (arith, all other a, more))

-- ---- expiries

-- the moment, if there is one, is at most that
abbrev pub EndsBy : ℕ → Option ℕ → Type 0
EndsBy t o = IfSome o (λ at. at ≤ t)

pub ends_later : (t u : ℕ) (o : Option ℕ) → t ≤ u → EndsBy t o → EndsBy u o
ends_later t u None l h = tt
ends_later t u (Some at) l h = omega (arith, l, h)

step_ends : (t s : ℕ) (x : WordKind) (time : ℕ) (o : Option ℕ) → EndsBy t o → EndsBy t (expiry_after (class_of (step_kind s x)) time o)
step_ends t s step.Start time o h = h
step_ends t s step.Finish time o h = tt
step_ends t s step.Hard time o h = h

steps_end : (t : ℕ) (by : CallBy) (steps : List WordKind) (old new : SourceView) → Steps by steps old new → EndsBy t (expiry (states.unstamped_source old.source.past)) → EndsBy t (expiry (states.unstamped_source new.source.past))
steps_end t by [] old new h e = subst (λ (s : SourceView). EndsBy t (expiry (states.unstamped_source s.source.past))) (sym h) e
steps_end t by (x ∷ rest) old new h e =
    steps_end t by rest (after_step by x h.0 old) new h.3 (step_ends t old.source.id x by.now (expiry (states.unstamped_source old.source.past)) e)

event_ends : (t u : ℕ) (o : Option ℕ) → u ≤ t → EndsBy t o → EndsBy t (later u o)
event_ends t u None l h = l
event_ends t u (Some at) l h = omega (arith, l, h)

note_ends : (t s : ℕ) (c : SourceCall) (time : ℕ) (o : Option ℕ) → IsBrief (note s c) → time + 86400000 ≤ t → EndsBy t o → EndsBy t (expiry_after (class_of (note s c)) time o)
note_ends t s call.Awake time o brief l h = tt
note_ends t s call.Relax time o brief l h = h
note_ends t s (call.Event ms hard) time o brief l h = by (ms == 0)
  where
    by : (b : Bool) → EndsBy t (cond b o (later (time + ms) o))
    by true = h
    by false = event_ends t (time + ms) o (omega (arith, brief, l)) h
note_ends t s call.Expire time o brief l h = h

-- after a call the event in progress ends at most a day from now, if it did so before
pub call_ends : (t : ℕ) (by : CallBy) (c : SourceCall) (old new : SourceView) → Calls by c old new → IsBrief (note old.source.id c) → by.now + 86400000 ≤ t → EndsBy t (expiry (states.unstamped_source old.source.past))
    → EndsBy t (expiry (states.unstamped_source new.source.past))
call_ends t by c old new h brief l e =
    steps_end t by (makes c (since (states.unstamped_source old.source.past))) h.0 new h.2
    (subst (λ (s : SourceView). EndsBy t (expiry (states.unstamped_source s.source.past))) (sym h.1.6) (note_ends t old.source.id c by.now (expiry (states.unstamped_source old.source.past)) brief l e))

-- an expiry is no event
expiry_brief : (s t : ℕ) (c : SourceCall) → note s c ≡ kind.Expire t → IsBrief (note s c)
expiry_brief s t call.Awake is = tt
expiry_brief s t call.Relax is = tt
expiry_brief s t (call.Event ms hard) is = absurd (cc)
expiry_brief s t call.Expire is = tt

-- the event of an actor's next call lasts at most a day
pub call_brief : (m : Machine) → IsAccepted m → (who : Actor) (past : List Entry) (n s : ℕ) (c : SourceCall) → IsCall who (calls_of m who past) n (note s c) → IsBrief (note s c)
call_brief m acc (actor.Script i) past n s c is = next_brief m acc (actor.Script i) past n (note s c) is
call_brief m acc actor.Auto past n s c is = next_brief m acc actor.Auto past n (note s c) is
call_brief m acc (actor.Dev d) past n s c is = next_brief m acc (actor.Dev d) past n (note s c) is
call_brief m acc (actor.Timer t) past n s c is = expiry_brief s t c is
call_brief m acc actor.Time past n s c is = next_brief m acc actor.Time past n (note s c) is

-- ---- time

-- no entry but a jump moves the time
pub time_preserved : (k : Kind) (n : ℕ) → time_after k n n ≡ n
time_preserved kind.Jump n = refl
time_preserved _ n = refl
