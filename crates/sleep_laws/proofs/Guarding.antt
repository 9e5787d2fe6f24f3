-- An attempt under a saved count enters only if nothing came since, from what the journal's entries say of the word.
use Rattle.std.proofs.Common.{◌≡◌, ◌≢◌, ◌≤◌, ◌<◌, ◌∙◌, ℕ, zero, suc, Bool, true, false, ◌==◌, List, [], ◌∷◌, Option, Some, None, refl, sym, ap, subst, cond, is_some, arith}
use Rattle.std.proofs.lemmas.Bool.Decides.{nat_tests}
use Rattle.sleep_base.specs.declared.errno.Errno.TheVariants.{EINVAL, EBUSY}
use Rattle.sleep_model.specs.declared.entry.Actor.{Actor}
use Rattle.sleep_model.specs.declared.entry.Entry.{Entry}
use Rattle.sleep_model.specs.declared.entry.FrozeEnd.TheVariants as froze
use Rattle.sleep_model.specs.declared.entry.Kind.{Kind}
use Rattle.sleep_model.specs.declared.entry.Kind.TheVariants as kind
use Rattle.sleep_model.specs.declared.entry.SkipCause.TheVariants as skip
use Rattle.sleep_model.specs.declared.word.EventNow.{EventNow}
use Rattle.sleep_model.specs.declared.word.WordKind.{WordKind}
use Rattle.sleep_model.specs.declared.word.WordKind.TheVariants as step
use Rattle.sleep_model.specs.Guard.{in_force, count_effect, count_pending, force_after}
use Rattle.sleep_model.specs.Laws.{UnlessBusy, SawNothing, EntersUnseen, GuardedSleep, answer_of, answer_after, later_answer, with_step, steps_since, steps_after, guard_of}
use Rattle.sleep_model.specs.Legal.{SourcePart, OwnStep, AreNumbered}
use Rattle.sleep_model.specs.Numbers.{numbers, word_step, after_step}
use Rattle.sleep_model.specs.EntryClasses.{EntryClass, OfJournal, Notes, Moves, OfTime, class_of, journal}
use Rattle.sleep_model.specs.Path.{is_same}
use Rattle.sleep_model.specs.Sources.{history, is_of, since, since_after, owed, IsNext}
use Rattle.sleep_model.specs.Word.{visible}
use Rattle.sleep_laws.proofs.Activity.{Runs, AllRun, runs_step, active, active_same, active_more, active_some, active_less, same_number}
use Rattle.sleep_laws.proofs.Few.{count_rises}
use Rattle.sleep_laws.proofs.Resting.{SoundIf, ForceRests, AnswerRests, answer_later, force_later, force_found, save_rests, unseen, Unseen}

-- ---- what an entry of the journal says of the word

-- the word shows that count, and no event is in progress
pub record Shows (now : EventNow) (c : ℕ) : Type 0 where
  pub seen : visible now ≡ c
  pub quiet : now.inpr ≡ 0

-- the count that guards the attempt is in force, and has not changed
pub record StillGuards (past : List Entry) (now : EventNow) : Type 0 where
  pub held : in_force past ≡ guard_of past
  pub quiescent : count_pending (in_force past) now ≡ false

-- a read and a good save show the word's count, and an attempt enters under the count that guards it
abbrev pub Says : List Entry → EventNow → Kind → Type 0
Says past now (kind.Read c) = Shows now c
Says past now (kind.Saved c) = Shows now c
Says past now (kind.AutoSaved c) = Shows now c
Says past now (kind.Enter busy) = UnlessBusy busy (StillGuards past now)
Says past now _ = Unit {0}

-- each of the journal's entries, the newest first, says what is so
abbrev pub AllSay : List Entry → Type 0
AllSay [] = Unit {0}
AllSay (e ∷ past) = Says past e.now e.kind × AllSay past

-- ---- the sources' entries change neither count

force_journal : (past : List Entry) → in_force past ≡ in_force (journal past)
force_journal [] = refl
force_journal (e ∷ past) = by_kind e.time e.now e.actor e.kind (force_journal past)
  where
    by_kind : (time : ℕ) (now : EventNow) (a : Actor) (k : Kind) → in_force past ≡ in_force (journal past) → in_force (record { time = time; now = now; actor = a; kind = k } ∷ past) ≡ in_force (journal (record { time = time; now = now; actor = a; kind = k } ∷ past))
    by_kind time now a (kind.Awake s) same = same
    by_kind time now a (kind.Relax s) same = same
    by_kind time now a (kind.Event s ms hard) same = same
    by_kind time now a (kind.Expire s) same = same
    by_kind time now a (kind.Start s) same = same
    by_kind time now a (kind.Finish s) same = same
    by_kind time now a (kind.Hard s) same = same
    by_kind time now a k same = ap (force_after (count_effect k) now) same

guard_journal : (past : List Entry) → guard_of past ≡ guard_of (journal past)
guard_journal [] = refl
guard_journal (e ∷ past) = by_kind e.time e.now e.actor e.kind (guard_journal past)
  where
    by_kind : (time : ℕ) (now : EventNow) (a : Actor) (k : Kind) → guard_of past ≡ guard_of (journal past) → guard_of (record { time = time; now = now; actor = a; kind = k } ∷ past) ≡ guard_of (journal (record { time = time; now = now; actor = a; kind = k } ∷ past))
    by_kind time now a (kind.Attempt n guarded) same = refl
    by_kind time now a k same = same

-- ---- what is so at each point

-- the events in progress of each source
abbrev pub since_of : List Entry → ℕ → Option ℕ
since_of past s = since (history s past)

pub record IsGuarded (past : List Entry) : Type 0 where
  pub force : ForceRests (in_force past) (steps_since past) (numbers past)
  pub answers : (who : Actor) → AnswerRests (answer_of who past) (numbers past)
  pub runs : AllRun past
  pub counts : (n : ℕ) → active n (since_of past) ≤ (numbers past).inpr

-- ---- the steps that sources make on the word

pub finish_runs : (on : Bool) (steps : List WordKind) → Runs on steps → IsNext step.Finish steps → on ≡ true
finish_runs on [] h n = absurd n
finish_runs on (step.Start ∷ steps) h n = absurd (cc)
finish_runs on (step.Finish ∷ steps) h n = h.0
finish_runs on (step.Hard ∷ steps) h n = h.0

pub hard_runs : (on : Bool) (steps : List WordKind) → Runs on steps → IsNext step.Hard steps → on ≡ true
hard_runs on [] h n = absurd n
hard_runs on (step.Start ∷ steps) h n = absurd (cc)
hard_runs on (step.Finish ∷ steps) h n = h.0
hard_runs on (step.Hard ∷ steps) h n = h.0

-- an entry leaves the event of another source as it was
since_other : (e : Entry) (past : List Entry) (s : ℕ) → is_of s (class_of e.kind) ≡ false → since_of (e ∷ past) s ≡ since_of past s
since_other e past s is = ap (λ b. since (cond b (e ∷ history s past) (history s past))) is

since_own : (e : Entry) (past : List Entry) (s : ℕ) → is_of s (class_of e.kind) ≡ true → since_of (e ∷ past) s ≡ since_after (class_of e.kind) e.time (since_of past s)
since_own e past s is = ap (λ b. since (cond b (e ∷ history s past) (history s past))) is

-- an entry that begins and finishes no event leaves each as it was
pub since_same : (e : Entry) (past : List Entry) → ((o : Option ℕ) → since_after (class_of e.kind) e.time o ≡ o) → (s : ℕ) → since_of (e ∷ past) s ≡ since_of past s
since_same e past keeps s = by_own (is_of s (class_of e.kind)) refl
  where
    by_own : (b : Bool) → is_of s (class_of e.kind) ≡ b → since_of (e ∷ past) s ≡ since_of past s
    by_own true is = since_own e past s is ∙ keeps (since_of past s)
    by_own false is = since_other e past s is

pub moves_other : (e : Entry) (past : List Entry) (t : ℕ) (w : WordKind) → class_of e.kind ≡ Moves t w → (s : ℕ) → s ≢ t → since_of (e ∷ past) s ≡ since_of past s
moves_other e past t w is s other = since_other e past s (ap (is_of s) is ∙ apart (t == s) refl)
  where
    apart : (b : Bool) → (t == s) ≡ b → (t == s) ≡ false
    apart true e = let same : t ≡ s = grind (arith, nat_tests) in absurd (other (sym same))
    apart false e = e

pub moves_own : (e : Entry) (past : List Entry) (t : ℕ) (w : WordKind) → class_of e.kind ≡ Moves t w → since_of (e ∷ past) t ≡ since_after (Moves t w) e.time (since_of past t)
moves_own e past t w is = since_own e past t (ap (is_of t) is ∙ same_number t) ∙ ap (λ (p : EntryClass). since_after p e.time (since_of past t)) is

-- a source that has an event in progress leaves the word with one
in_progress : (past : List Entry) → IsGuarded past → (t : ℕ) → is_some (since_of past t) ≡ true → 0 < (numbers past).inpr
in_progress past h t is = omega (arith, h.counts (suc t), active_some t (since_of past) is)

-- ---- the step of an entry

-- the note of a call
abbrev IsNote : Kind → Type 0
IsNote (kind.Awake s) = Unit {0}
IsNote (kind.Relax s) = Unit {0}
IsNote (kind.Event s ms hard) = Unit {0}
IsNote (kind.Expire s) = Unit {0}
IsNote _ = ⊥

-- an entry of no source
abbrev IsNoSources : EntryClass → Type 0
IsNoSources OfJournal = Unit {0}
IsNoSources OfTime = Unit {0}
IsNoSources _ = ⊥

abbrev IsOfJournal : Kind → Type 0
IsOfJournal k = IsNoSources (class_of k)

module _ (past : List Entry) (h : IsGuarded past) where
  counts_preserved : (e : Entry) → ((o : Option ℕ) → since_after (class_of e.kind) e.time o ≡ o) → (n : ℕ) → active n (since_of (e ∷ past)) ≤ (numbers past).inpr
  counts_preserved e keeps n = omega (arith, h.counts n, active_same n (since_of past) (since_of (e ∷ past)) (since_same e past keeps))

  -- a step of the word carries over what rests on it
  forced : (o : Option WordKind) → SoundIf o (numbers past) → ForceRests (in_force past) (with_step o (steps_since past)) (after_step o (numbers past))
  forced o q = force_later (in_force past) (steps_since past) (numbers past) o q h.force

  answered_later : (o : Option WordKind) → SoundIf o (numbers past) → (who : Actor) → AnswerRests (later_answer o (answer_of who past)) (after_step o (numbers past))
  answered_later o q who = answer_later (answer_of who past) (numbers past) o q (h.answers who)

  -- the note of a call
  note_preserved : (time : ℕ) (now : EventNow) (a : Actor) (k : Kind) → IsNote k → OwnStep past (record { time = time; now = now; actor = a; kind = k }) (class_of k) → IsGuarded (record { time = time; now = now; actor = a; kind = k } ∷ past)
  note_preserved time now a (kind.Awake s) is own = let e : Entry = record { time = time; now = now; actor = a; kind = kind.Awake s } in record { force = h.force; answers = answered_later None tt; runs = runs_step e past own h.runs; counts = counts_preserved e (λ o. refl) }
  note_preserved time now a (kind.Relax s) is own = let e : Entry = record { time = time; now = now; actor = a; kind = kind.Relax s } in record { force = h.force; answers = answered_later None tt; runs = runs_step e past own h.runs; counts = counts_preserved e (λ o. refl) }
  note_preserved time now a (kind.Event s ms hard) is own = let e : Entry = record { time = time; now = now; actor = a; kind = kind.Event s ms hard } in record { force = h.force; answers = answered_later None tt; runs = runs_step e past own h.runs; counts = counts_preserved e (λ o. refl) }
  note_preserved time now a (kind.Expire s) is own = let e : Entry = record { time = time; now = now; actor = a; kind = kind.Expire s } in record { force = h.force; answers = answered_later None tt; runs = runs_step e past own h.runs; counts = counts_preserved e (λ o. refl) }
  note_preserved time now a _ is own = absurd is

  -- a step of the word
  start_preserved : (time : ℕ) (now : EventNow) (a : Actor) (s : ℕ) → OwnStep past (record { time = time; now = now; actor = a; kind = kind.Start s }) (Moves s step.Start) → IsGuarded (record { time = time; now = now; actor = a; kind = kind.Start s } ∷ past)
  start_preserved time now a s own =
      let e : Entry = record { time = time; now = now; actor = a; kind = kind.Start s } in
      record {
        force = forced (Some step.Start) tt;
        answers = answered_later (Some step.Start) tt;
        runs = runs_step e past own h.runs;
        counts = λ n. omega (arith, h.counts n, active_more n s (since_of past) (since_of (e ∷ past)) (moves_other e past s step.Start refl));
      }

  finish_preserved : (time : ℕ) (now : EventNow) (a : Actor) (s : ℕ) → OwnStep past (record { time = time; now = now; actor = a; kind = kind.Finish s }) (Moves s step.Finish) → IsGuarded (record { time = time; now = now; actor = a; kind = kind.Finish s } ∷ past)
  finish_preserved time now a s own =
      let e : Entry = record { time = time; now = now; actor = a; kind = kind.Finish s } in
      let on : is_some (since_of past s) ≡ true = finish_runs (is_some (since_of past s)) (owed (history s past)) (h.runs s) own.0 in
      let off : is_some (since_of (e ∷ past) s) ≡ false = ap is_some (moves_own e past s step.Finish refl) in
      let busy : 0 < (numbers past).inpr = in_progress past h s on in
      record {
        force = forced (Some step.Finish) busy;
        answers = answered_later (Some step.Finish) busy;
        runs = runs_step e past own h.runs;
        counts = λ n. omega (arith, busy, active_less s (since_of past) (since_of (e ∷ past)) (numbers past).inpr on off (moves_other e past s step.Finish refl) h.counts n);
      }

  hard_preserved : (time : ℕ) (now : EventNow) (a : Actor) (s : ℕ) → OwnStep past (record { time = time; now = now; actor = a; kind = kind.Hard s }) (Moves s step.Hard) → IsGuarded (record { time = time; now = now; actor = a; kind = kind.Hard s } ∷ past)
  hard_preserved time now a s own =
      let e : Entry = record { time = time; now = now; actor = a; kind = kind.Hard s } in
      let on : is_some (since_of past s) ≡ true = hard_runs (is_some (since_of past s)) (owed (history s past)) (h.runs s) own.0 in
      let busy : 0 < (numbers past).inpr = in_progress past h s on in
      record {
        force = forced (Some step.Hard) busy;
        answers = answered_later (Some step.Hard) busy;
        runs = runs_step e past own h.runs;
        counts = counts_preserved e (λ o. refl);
      }

  -- an entry of the journal, or a jump, that says what is so
  force_answered : (now : EventNow) → now ≡ numbers past → (a : Actor) (k : Kind) → IsOfJournal k → Says (journal past) now k → ForceRests (force_after (count_effect k) now (in_force past)) (steps_after k (answer_of a past) (steps_since past)) (numbers past)
  force_answered now word a (kind.Saved c) is says = save_rests c (numbers past) (answer_of a past) (ap visible (sym word) ∙ says.seen) (ap (λ (w : EventNow). w.inpr) (sym word) ∙ says.quiet) (h.answers a)
  force_answered now word a (kind.AutoSaved c) is says = save_rests c (numbers past) (answer_of a past) (ap visible (sym word) ∙ says.seen) (ap (λ (w : EventNow). w.inpr) (sym word) ∙ says.quiet) (h.answers a)
  force_answered now word a (kind.SaveErr c EINVAL) is says = tt
  force_answered now word a (kind.AutoUnsaved c) is says = tt
  force_answered now word a kind.Clear is says = tt
  force_answered now word a (kind.Froze g (froze.Wakeup left first)) is says = force_found (in_force past) (steps_since past) (numbers past) now h.force
  force_answered now word a (kind.Skip p d skip.Pending) is says = force_found (in_force past) (steps_since past) (numbers past) now h.force
  force_answered now word a (kind.CpuBusy k) is says = force_found (in_force past) (steps_since past) (numbers past) now h.force
  force_answered now word a (kind.SyscoreCheck (Some EBUSY)) is says = force_found (in_force past) (steps_since past) (numbers past) now h.force
  force_answered now word a (kind.Enter true) is says = force_found (in_force past) (steps_since past) (numbers past) now h.force
  force_answered now word a (kind.Start s) is says = absurd is
  force_answered now word a (kind.Finish s) is says = absurd is
  force_answered now word a (kind.Hard s) is says = absurd is
  force_answered now word a _ is says = h.force

  answers_answered : (now : EventNow) → now ≡ numbers past → (own : Bool) (who : Actor) (k : Kind) → IsOfJournal k → Says (journal past) now k → AnswerRests (answer_after k own (answer_of who past)) (numbers past)
  answers_answered now word true who (kind.Read c) is says = record { word = numbers past; seen = ap visible (sym word) ∙ says.seen; quiet = ap (λ (w : EventNow). w.inpr) (sym word) ∙ says.quiet; since = refl; sound = tt }
  answers_answered now word false who (kind.Read c) is says = h.answers who
  answers_answered now word own who (kind.Start s) is says = absurd is
  answers_answered now word own who (kind.Finish s) is says = absurd is
  answers_answered now word own who (kind.Hard s) is says = absurd is
  answers_answered now word own who _ is says = answered_later None tt who

  journal_preserved : (time : ℕ) (now : EventNow) → now ≡ numbers past → (a : Actor) (k : Kind) → IsOfJournal k → Says (journal past) now k → IsGuarded (record { time = time; now = now; actor = a; kind = k } ∷ past)
  journal_preserved time now word a k is says =
      let e : Entry = record { time = time; now = now; actor = a; kind = k } in
      let same : numbers past ≡ numbers (e ∷ past) = sym (ap (λ (o : Option WordKind). after_step o (numbers past)) (no_step k is)) in
      record {
        force = subst (ForceRests (force_after (count_effect k) now (in_force past)) (steps_after k (answer_of a past) (steps_since past))) same (force_answered now word a k is says);
        answers = λ who. subst (AnswerRests (answer_after k (is_same a who) (answer_of who past))) same (answers_answered now word (is_same a who) who k is says);
        runs = runs_step e past (own_step e (class_of k) is) h.runs;
        counts = λ n. subst (λ (w : EventNow). active n (since_of (e ∷ past)) ≤ w.inpr) same (counts_preserved e (keeps_since (class_of k) time is) n);
      }
    where
      no_step : (x : Kind) → IsOfJournal x → word_step x ≡ None
      no_step (kind.Start s) i = absurd i
      no_step (kind.Finish s) i = absurd i
      no_step (kind.Hard s) i = absurd i
      no_step _ i = refl

      keeps_since : (part : EntryClass) (at : ℕ) → IsNoSources part → (o : Option ℕ) → since_after part at o ≡ o
      keeps_since OfJournal at i o = refl
      keeps_since OfTime at i o = refl
      keeps_since (Notes s made) at i o = absurd i
      keeps_since (Moves s w) at i o = absurd i

      own_step : (e : Entry) (part : EntryClass) → IsNoSources part → OwnStep past e part
      own_step e OfJournal i = tt
      own_step e OfTime i = tt
      own_step e (Notes s made) i = absurd i
      own_step e (Moves s w) i = absurd i

-- what an entry of the journal says, if there is one
abbrev SaysIf : List Entry → EventNow → Kind → EntryClass → Type 0
SaysIf past now k OfJournal = Says past now k
SaysIf past now k OfTime = Says past now k
SaysIf past now k _ = Unit {0}

-- so at each point, from what the journal's entries say
guarded_step : (past : List Entry) → IsGuarded past → (time : ℕ) (now : EventNow) (a : Actor) (k : Kind) → now ≡ numbers past → OwnStep past (record { time = time; now = now; actor = a; kind = k }) (class_of k) → SaysIf (journal past) now k (class_of k) → IsGuarded (record { time = time; now = now; actor = a; kind = k } ∷ past)
guarded_step past h time now a (kind.Awake s) word own says = note_preserved past h time now a (kind.Awake s) tt own
guarded_step past h time now a (kind.Relax s) word own says = note_preserved past h time now a (kind.Relax s) tt own
guarded_step past h time now a (kind.Event s ms hard) word own says = note_preserved past h time now a (kind.Event s ms hard) tt own
guarded_step past h time now a (kind.Expire s) word own says = note_preserved past h time now a (kind.Expire s) tt own
guarded_step past h time now a (kind.Start s) word own says = start_preserved past h time now a s own
guarded_step past h time now a (kind.Finish s) word own says = finish_preserved past h time now a s own
guarded_step past h time now a (kind.Hard s) word own says = hard_preserved past h time now a s own
guarded_step past h time now a k word own says = journal_preserved past h time now word a k tt says

-- an attempt that enters saw nothing
enters_unseen : (past : List Entry) → IsGuarded past → (numbers past).count < 16777216 → (now : EventNow) → now ≡ numbers past → (k : Kind) → Says (journal past) now k → EntersUnseen past k
enters_unseen past h few now word (kind.Enter false) says =
    let held : in_force past ≡ guard_of past = force_journal past ∙ (says.held ∙ sym (guard_journal past)) in
    let quiescent : count_pending (in_force past) (numbers past) ≡ false = ap (λ (w : EventNow). count_pending (in_force past) w) (sym word) ∙ (ap (λ (f : Option ℕ). count_pending f now) (force_journal past) ∙ says.quiescent) in
    subst (SawNothing past) held (saw (in_force past) (unseen (in_force past) (steps_since past) (numbers past) h.force quiescent few))
  where
    saw : (f : Option ℕ) → Unseen f (steps_since past) (numbers past) → SawNothing past f
    saw None u = tt
    saw (Some c) u = u
enters_unseen past h few now word (kind.Enter true) says = tt
enters_unseen past h few now word _ says = tt

guarded_and_sleep : (past : List Entry) → SourcePart past → AreNumbered past → AllSay (journal past) → (numbers past).count < 16777216 → IsGuarded past × GuardedSleep past
guarded_and_sleep [] own placed answered few = (record { force = tt; answers = λ who. tt; runs = λ s. tt; counts = λ n. omega (arith, none_active n) }, tt)
  where
    none_active : (n : ℕ) → active n (λ s. None) ≡ 0
    none_active zero = refl
    none_active (suc n) = omega (arith, none_active n)
guarded_and_sleep (e ∷ past) own placed answered few =
    let before : (numbers past).count < 16777216 = omega (arith, few, count_rises e past) in
    by_kind e.time e.now e.actor e.kind own.0 placed.0 answered before (λ s. guarded_and_sleep past own.1 placed.2 s before)
  where
    by_kind : (time : ℕ) (now : EventNow) (a : Actor) (k : Kind) → OwnStep past (record { time = time; now = now; actor = a; kind = k }) (class_of k) → now ≡ numbers past → AllSay (journal (record { time = time; now = now; actor = a; kind = k } ∷ past)) → (numbers past).count < 16777216 → (AllSay (journal past) → IsGuarded past × GuardedSleep past) → IsGuarded (record { time = time; now = now; actor = a; kind = k } ∷ past) × GuardedSleep (record { time = time; now = now; actor = a; kind = k } ∷ past)
    by_kind time now a (kind.Awake s) own word answered few rest = let r = rest answered in (guarded_step past r.0 time now a (kind.Awake s) word own tt, (tt, r.1))
    by_kind time now a (kind.Relax s) own word answered few rest = let r = rest answered in (guarded_step past r.0 time now a (kind.Relax s) word own tt, (tt, r.1))
    by_kind time now a (kind.Event s ms hard) own word answered few rest = let r = rest answered in (guarded_step past r.0 time now a (kind.Event s ms hard) word own tt, (tt, r.1))
    by_kind time now a (kind.Expire s) own word answered few rest = let r = rest answered in (guarded_step past r.0 time now a (kind.Expire s) word own tt, (tt, r.1))
    by_kind time now a (kind.Start s) own word answered few rest = let r = rest answered in (guarded_step past r.0 time now a (kind.Start s) word own tt, (tt, r.1))
    by_kind time now a (kind.Finish s) own word answered few rest = let r = rest answered in (guarded_step past r.0 time now a (kind.Finish s) word own tt, (tt, r.1))
    by_kind time now a (kind.Hard s) own word answered few rest = let r = rest answered in (guarded_step past r.0 time now a (kind.Hard s) word own tt, (tt, r.1))
    by_kind time now a k own word answered few rest = let r = rest answered.1 in (guarded_step past r.0 time now a k word own answered.0, (enters_unseen past r.0 few now word k answered.0, r.1))

-- attempts under a saved count enter only if nothing came since, in each list whose journal says what is so
pub guarded_of : (past : List Entry) → SourcePart past → AreNumbered past → AllSay (journal past) → (numbers past).count < 16777216 → GuardedSleep past
guarded_of past own placed answered few = (guarded_and_sleep past own placed answered few).1
