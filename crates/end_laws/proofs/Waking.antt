-- If time jumps a machine that sleeps has seen no step, and each jump is to a later moment.
use Rattle.std.proofs.Common.{◌≡◌, ◌≤◌, ◌<◌, ◌+◌, ◌∙◌, ℕ, Bool, true, false, not, ◌==◌, ◌&&◌, nat_lt, nat_le, List, [], ◌∷◌, length, Option, Some, None, cond, refl, sym, ap, subst, arith}
use Rattle.std.proofs.lemmas.Bool.{true≢false}
use Rattle.std.proofs.lemmas.Bool.Decides.{nat_tests}
use Rattle.sleep_model.specs.declared.entry.Actor.{Actor}
use Rattle.sleep_model.specs.declared.entry.Actor.TheVariants as actor
use Rattle.sleep_model.specs.declared.entry.Entry.{Entry}
use Rattle.sleep_model.specs.declared.entry.Kind.{Kind}
use Rattle.sleep_model.specs.declared.entry.Kind.TheVariants as kind
use Rattle.sleep_model.specs.declared.log.Why.TheVariants as why
use Rattle.sleep_model.specs.declared.machine.Machine.{Machine}
use Rattle.sleep_model.specs.declared.progress.Due.TheVariants as turn
use Rattle.sleep_model.specs.declared.progress.Sleep.{Sleep}
use Rattle.sleep_model.specs.declared.progress.Stage.{Stage}
use Rattle.sleep_model.specs.declared.progress.Stage.TheVariants as stage
use Rattle.sleep_model.specs.declared.word.EventNow.{EventNow}
use Rattle.sleep_model.specs.Attempt.{attempt_due, due_at, enter_due, sleep_after, sleep_of, stage_due, wakes_due}
use Rattle.sleep_model.specs.Due.{due, own_due}
use Rattle.sleep_model.specs.Legal.{IsOnTime, JointPart, JointStep, JournalPart, JournalStep, AreNumbered, is_enabled, is_idle, is_made, none_enabled, none_expires}
use Rattle.sleep_model.specs.Numbers.{after_step, numbers, time_after, time_of, word_step}
use Rattle.sleep_model.specs.EntryClasses.{EntryClass, OfTime, is_in_journal, journal, class_of}
use Rattle.sleep_model.specs.Path.{is_actor, maker}
use Rattle.sleep_model.specs.Sources.{history}
use Rattle.sleep_model.specs.Table.{next_stage, stage_of}
use Rattle.sleep_model.specs.Word.{position}
use Rattle.sleep_laws.proofs.Activity.{same_number}
use Rattle.sleep_laws.proofs.Answering.{Side, side_invariant}
use Rattle.sleep_laws.proofs.Ending.{MakerIn, and_left, and_right, first_made, maker_in, none_of, not_made, not_true}
use Rattle.sleep_laws.proofs.LockHolding.{StageMaker, at_stage, lock_agrees}
use Rattle.sleep_laws.proofs.Telling.{some≢none}
use Rattle.end_laws.specs.Waking.{EventsWakeFirst, TimeGoesForward, events_wake_first, is_unstirred, jumps_unstirred, keeps_time, time_goes_forward}

-- ---- classes of entries

-- the rest of a list is legal in each class
pub journal_rest : (m : Machine) (e : Entry) (past : List Entry) (b : Bool) → JournalPart m (cond b (e ∷ past) past) → JournalPart m past
journal_rest m e past true h = h.1
journal_rest m e past false h = h

-- an entry of a source neither sleeps nor wakes
source_sleeps : (k : Kind) (pos time : ℕ) (before : Option Sleep) → is_in_journal (class_of k) ≡ false → sleep_after k pos time before ≡ before
source_sleeps (kind.Enter busy) pos time before h = absurd (true≢false h)
source_sleeps (kind.Wake by_event) pos time before h = absurd (true≢false h)
source_sleeps _ pos time before h = refl

-- the sleep is the journal's
pub sleep_journal : (past : List Entry) → sleep_of past ≡ sleep_of (journal past)
sleep_journal [] = refl
sleep_journal (e ∷ past) = by_preserved (is_in_journal (class_of e.kind)) refl (sleep_journal past)
  where
    by_preserved : (b : Bool) → is_in_journal (class_of e.kind) ≡ b → sleep_of past ≡ sleep_of (journal past) → sleep_of (e ∷ past) ≡ sleep_of (cond b (e ∷ journal past) (journal past))
    by_preserved true k h = ap (sleep_after e.kind (position e.now) e.time) h
    by_preserved false k h = source_sleeps e.kind (position e.now) e.time (sleep_of past) k ∙ h

source_times : (k : Kind) (time before : ℕ) → is_in_journal (class_of k) ≡ false → time_after k time before ≡ before
source_times kind.Jump time before h = absurd (true≢false h)
source_times _ time before h = refl

-- so is the time
pub time_journal : (past : List Entry) → time_of past ≡ time_of (journal past)
time_journal [] = refl
time_journal (e ∷ past) = by_preserved (is_in_journal (class_of e.kind)) refl (time_journal past)
  where
    by_preserved : (b : Bool) → is_in_journal (class_of e.kind) ≡ b → time_of past ≡ time_of (journal past) → time_of (e ∷ past) ≡ time_of (cond b (e ∷ journal past) (journal past))
    by_preserved true k h = ap (time_after e.kind e.time) h
    by_preserved false k h = source_times e.kind e.time (time_of past) k ∙ h

-- ---- positions rise

-- a sleep began at that position or before it
abbrev BeganBy : Option Sleep → ℕ → Type 0
BeganBy None at = Unit {0}
BeganBy (Some s) at = s.pos ≤ at

step_rises : (k : Kind) (now : EventNow) → position now ≤ position (after_step (word_step k) now)
step_rises (kind.Start s) now = omega arith
step_rises (kind.Finish s) now = omega arith
step_rises (kind.Hard s) now = omega arith
step_rises _ now = omega arith

later_by : (o : Option Sleep) (at later : ℕ) → at ≤ later → BeganBy o at → BeganBy o later
later_by None at later l h = tt
later_by (Some s) at later l h = omega (arith, h, l)

entered_by : (k : Kind) (time at : ℕ) (before : Option Sleep) → BeganBy before at → BeganBy (sleep_after k at time before) at
entered_by (kind.Enter true) time at before h = h
entered_by (kind.Enter false) time at before h = omega arith
entered_by (kind.Wake by_event) time at before h = tt
entered_by _ time at before h = h

began : (past : List Entry) → AreNumbered past → BeganBy (sleep_of past) (position (numbers past))
began [] h = tt
began (e ∷ past) h =
    subst (λ (n : ℕ). BeganBy (sleep_after e.kind n e.time (sleep_of past)) (position (numbers (e ∷ past)))) (ap position (sym h.0))
    (later_by (sleep_after e.kind (position (numbers past)) e.time (sleep_of past)) (position (numbers past)) (position (numbers (e ∷ past))) (step_rises e.kind (numbers past))
    (entered_by e.kind e.time (position (numbers past)) (sleep_of past) (began past h.2)))

-- ---- who sleeps at the entering

-- the machine sleeps only at the entering
pub sleeps_entering : (m : Machine) (past : List Entry) (s : Sleep) → JournalPart m past → sleep_of past ≡ Some s → stage_of past ≡ Some stage.Enters
sleeps_entering m past s h e = by_stage (stage_of past) refl (at_stage m Side (side_invariant m) past h)
  where
    awake : sleep_of past ≡ None → stage_of past ≡ Some stage.Enters
    awake n = absurd (some≢none s (sym e ∙ n))

    by_stage : (o : Option Stage) → stage_of past ≡ o → Side o past → stage_of past ≡ Some stage.Enters
    by_stage None x h = awake h
    by_stage (Some stage.Enters) x h = x
    by_stage (Some stage.Notifies) x h = awake h.2
    by_stage (Some (stage.Freezes g)) x h = awake h.2
    by_stage (Some (stage.PlatformDo step)) x h = awake h.2
    by_stage (Some stage.Prepares) x h = awake h.2
    by_stage (Some (stage.Downs p)) x h = awake h.2
    by_stage (Some stage.StopsCpus) x h = awake h.2
    by_stage (Some stage.StopsIrqs) x h = awake h.2
    by_stage (Some stage.ChecksWakeup) x h = awake h.2
    by_stage (Some stage.StopsSyscore) x h = awake h.2
    by_stage (Some _) x h = awake h.1

module _ (m : Machine) (past : List Entry) (of : ℕ → List Entry) (now : EventNow) (idle : is_idle m past of now ≡ true) where
  scripts : Bool
  scripts = none_enabled m past of now actor.Script (length m.actors)

  devices : Bool
  devices = none_enabled m past of now actor.Dev (length m.devices)

  works : Bool
  works = not (is_enabled m past of now actor.Auto)

  expiries : Bool
  expiries = none_expires (length m.sources + 1) of (time_of past)

  scripts_idle : none_enabled m past of now actor.Script (length m.actors) ≡ true
  unfolding scripts works devices expiries
  scripts_idle = and_left scripts works (and_left (scripts && works) devices (and_left (scripts && works && devices) expiries idle))

  work_idle : not (is_enabled m past of now actor.Auto) ≡ true
  unfolding scripts works devices expiries
  work_idle = and_right scripts works (and_left (scripts && works) devices (and_left (scripts && works && devices) expiries idle))

  -- if nobody can make anything no timer of a source is to expire
  pub none_due : none_expires (length m.sources + 1) of (time_of past) ≡ true
  unfolding scripts works devices expiries
  none_due = and_right (scripts && works && devices) expiries idle

  -- and no script and no work makes anything
  pub script_rests : (i : ℕ) → i < length m.actors → is_made (due m past (actor.Script i) now) ≡ false
  script_rests i l = not_made m past of now (actor.Script i) (none_of m past of now actor.Script (length m.actors) scripts_idle i l)

  pub work_rests : is_made (due m past actor.Auto now) ≡ false
  work_rests = not_made m past of now actor.Auto (not_true (is_enabled m past of now actor.Auto) work_idle)

  -- so the maker of the open attempt makes nothing
  pub maker_rests : JournalPart m past → (here : Stage) → stage_of past ≡ Some here → is_made (due_at m past now (Some here)) ≡ false
  maker_rests j here at = by_maker (maker past) refl (maker_in m past j) (subst (StageMaker (maker past)) at (lock_agrees m past j).2)
    where
      made_by : (w : Actor) → is_actor w (maker past) ≡ true → is_made (due m past w now) ≡ false → is_made (due_at m past now (Some here)) ≡ false
      made_by w a r = sym (ap (λ b. is_made (cond b (attempt_due m past now) (own_due m past w now))) a ∙ ap (λ o. is_made (due_at m past now o)) at) ∙ r

      by_maker : (o : Option Actor) → maker past ≡ o → MakerIn m o → StageMaker o (Some here) → is_made (due_at m past now (Some here)) ≡ false
      by_maker None e l s = absurd s
      by_maker (Some (actor.Script i)) e l s = made_by (actor.Script i) (ap (is_actor (actor.Script i)) e ∙ same_number i) (script_rests i l)
      by_maker (Some actor.Auto) e l s = made_by actor.Auto (ap (is_actor actor.Auto) e) work_rests
      by_maker (Some (actor.Dev d)) e l s = absurd s
      by_maker (Some (actor.Timer d)) e l s = absurd s
      by_maker (Some actor.Time) e l s = absurd s

-- a machine that does not wake has seen no step
not_stirred : (m : Machine) (past : List Entry) (now : EventNow) (s : Sleep) → is_made (wakes_due m past now s) ≡ false → nat_lt s.pos (position now) ≡ false
not_stirred m past now s h = by_test (nat_lt s.pos (position now)) refl h
  where
    by_test : (b : Bool) → nat_lt s.pos (position now) ≡ b → is_made (cond b (turn.Makes (kind.Wake true)) (cond (nat_le (s.since + m.alarm_ms) (time_of past)) (turn.Makes (kind.Wake false)) (turn.Waits why.Asleep))) ≡ false → nat_lt s.pos (position now) ≡ false
    by_test true e h = absurd (true≢false h)
    by_test false e h = e

-- ---- events wake first

at_jump : (m : Machine) (past : List Entry) → JournalPart m (journal past) → AreNumbered past → is_idle m (journal past) (λ s. history s past) (numbers past) ≡ true → is_unstirred (sleep_of past) (numbers past) ≡ true
at_jump m past j p idle = by_sleep (sleep_of past) (sym (sleep_journal past)) (began past p)
  where
    by_sleep : (o : Option Sleep) → sleep_of (journal past) ≡ o → BeganBy o (position (numbers past)) → is_unstirred o (numbers past) ≡ true
    by_sleep None e b = refl
    by_sleep (Some s) e b =
        let at : stage_of (journal past) ≡ Some stage.Enters = sleeps_entering m (journal past) s j e in
        let rests = maker_rests m (journal past) (λ s. history s past) (numbers past) idle j stage.Enters at in
        let enters = first_made (stage_due m (journal past) (numbers past) stage.Enters) (stage_due m (journal past) (numbers past) (next_stage stage.Enters)) rests in
        let wakes : is_made (wakes_due m (journal past) (numbers past) s) ≡ false = subst (λ (o : Option Sleep). is_made (enter_due m (journal past) (numbers past) o) ≡ false) e enters in
        let none : nat_lt s.pos (position (numbers past)) ≡ false = not_stirred m (journal past) (numbers past) s wakes in
        let low : s.pos ≤ position (numbers past) = b in
        grind (arith, nat_tests)

pub both : (a b : Bool) → a ≡ true → b ≡ true → (a && b) ≡ true
both true b x y = y
both false b x y = absurd (true≢false (sym x))

wakes_at : (k : Kind) (o : Option Sleep) (now : EventNow) → (class_of k ≡ OfTime → is_unstirred o now ≡ true) → jumps_unstirred k o now ≡ true
wakes_at kind.Jump o now h = h refl
wakes_at _ o now h = refl

pub events_wake : (m : Machine) (past : List Entry) → JournalPart m (journal past) → AreNumbered past → JointPart m past → events_wake_first past ≡ true
events_wake m [] j p t = refl
events_wake m (e ∷ past) j p t =
    let before : JournalPart m (journal past) = journal_rest m e (journal past) (is_in_journal (class_of e.kind)) j in
    both (jumps_unstirred e.kind (sleep_of past) (numbers past)) (events_wake_first past)
    (wakes_at e.kind (sleep_of past) (numbers past) (λ is. at_jump m past before p.2 (subst (JointStep m past e) is t.0).idle))
    (events_wake m past before p.2 t.1)

pub events_first : EventsWakeFirst
events_first m past h = events_wake m past h.journal h.placed h.joint

-- ---- time goes forward

-- a jump of time
abbrev is_time : EntryClass → Bool
is_time OfTime = true
is_time _ = false

preserved_time : (k : Kind) (before at : ℕ) → (is_time (class_of k) ≡ true → before < at) → (is_time (class_of k) ≡ false → at ≡ before) → keeps_time k before at ≡ true
preserved_time kind.Jump before at j o = let l : before < at = j refl in grind (arith, nat_tests)
preserved_time _ before at j o = subst (λ (n : ℕ). (n == before) ≡ true) (sym (o refl)) (same_number before)

module _ (m : Machine) (past : List Entry) (e : Entry) where
  jumps_on : (p : EntryClass) → is_time p ≡ true → JournalPart m (cond (is_in_journal p) (e ∷ journal past) (journal past)) → class_of e.kind ≡ p → time_of past < e.time
  jumps_on OfTime i h x = subst (λ (n : ℕ). n < e.time) (sym (time_journal past)) (subst (JournalStep m (journal past) e) x h.0).1
  jumps_on _ i h x = absurd (true≢false (sym i))

  stays_on : (p : EntryClass) → is_time p ≡ false → IsOnTime past e.time p → e.time ≡ time_of past
  stays_on OfTime i h = absurd (true≢false i)
  stays_on _ i h = h

pub goes_forward : (m : Machine) (past : List Entry) → JournalPart m (journal past) → AreNumbered past → time_goes_forward past ≡ true
goes_forward m [] j p = refl
goes_forward m (e ∷ past) j p =
    both (keeps_time e.kind (time_of past) e.time) (time_goes_forward past)
    (preserved_time e.kind (time_of past) e.time (λ i. jumps_on m past e (class_of e.kind) i j refl) (λ i. stays_on m past e (class_of e.kind) i p.1))
    (goes_forward m past (journal_rest m e (journal past) (is_in_journal (class_of e.kind)) j) p.2)

pub time_forward : TimeGoesForward
time_forward m past h = goes_forward m past h.journal h.placed
