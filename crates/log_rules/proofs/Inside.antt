-- One call at a time: an actor that is inside a call of a source made its last entry there.
use Rattle.std.proofs.Common.{◌≡◌, ◌<◌, ◌+◌, ◌++◌, ◌∙◌, ℕ, zero, suc, Bool, true, false, ◌==◌, ◌&&◌, ◌||◌, List, [], ◌∷◌, length, Option, Some, None, cond, refl, sym, ap, subst, arith, slice_get}
use Rattle.std.proofs.lemmas.Bool.Decides.{nat_tests}
use Rattle.std.specs.List.{list_all}
use Rattle.sleep_model.specs.declared.entry.Actor.{Actor}
use Rattle.sleep_model.specs.declared.entry.Actor.TheVariants as actor
use Rattle.sleep_model.specs.declared.entry.Entry.{Entry}
use Rattle.sleep_model.specs.declared.entry.Kind.{Kind}
use Rattle.sleep_model.specs.declared.entry.Kind.TheVariants as kind
use Rattle.sleep_model.specs.declared.machine.Machine.{Machine}
use Rattle.sleep_model.specs.declared.word.EventNow.{EventNow}
use Rattle.sleep_model.specs.declared.progress.Due.TheVariants.{Makes, Nothing}
use Rattle.sleep_model.specs.declared.progress.Stage.{Stage}
use Rattle.sleep_model.specs.Attempt.{attempt_due}
use Rattle.sleep_model.specs.Calls.{calls_of, calls_after_turn, ends_turn, is_calling, is_left, made, report_calls, turns_ended}
use Rattle.sleep_model.specs.Due.{due}
use Rattle.sleep_model.specs.Legal.{IsLegal, JournalPart, JournalStep, JointPart, JointStep, IsOwnCall, SourcePart, OwnStep, last_is_of, is_there}
use Rattle.sleep_model.specs.Numbers.{time_after, time_of}
use Rattle.sleep_model.specs.EntryClasses.{EntryClass, OfJournal, Notes, Moves, OfTime, class_of, is_in_journal, journal}
use Rattle.sleep_model.specs.Path.{attempts, maker, is_actor, is_same}
use Rattle.sleep_model.specs.Sources.{history, is_of, owed, caller, caller_after}
use Rattle.sleep_model.specs.Table.{stage_of}
use Rattle.sleep_laws.proofs.LockHolding.{lock_agrees, StageMaker}
use Rattle.sleep_laws.proofs.Telling.{none≢some}
use Rattle.rule_definitions.specs.Steps.{is_inside}
use Rattle.log_rules.proofs.Facts.{never, gone, journal_no_time}

-- ---- small facts

pub same_actor : (who : Actor) → is_same who who ≡ true
same_actor (actor.Script i) = grind (arith, nat_tests)
same_actor actor.Auto = refl
same_actor (actor.Dev d) = grind (arith, nat_tests)
same_actor (actor.Timer s) = grind (arith, nat_tests)
same_actor actor.Time = refl

time_further : (past : List Entry) (time : ℕ) (now : EventNow) (who : Actor) (k : Kind) → time_of (journal past) ≡ time_of past → time_of (journal (record { time = time; now = now; actor = who; kind = k } ∷ past)) ≡ time_after k time (time_of past)
time_further past time now who kind.Jump h = refl
time_further past time now who _ h = h

-- the last jump among all entries is the journal's
pub time_journal : (past : List Entry) → time_of (journal past) ≡ time_of past
time_journal [] = refl
time_journal (e ∷ past) = time_further past e.time e.now e.actor e.kind (time_journal past)

pub same_number : (s t : ℕ) → (s == t) ≡ true → s ≡ t
same_number s t e = grind (arith, nat_tests)

-- a class is of one source
of_one : (p : EntryClass) (s t : ℕ) → is_of s p ≡ true → is_of t p ≡ true → s ≡ t
of_one (Notes x c) s t e f = sym (same_number x s e) ∙ same_number x t f
of_one (Moves x c) s t e f = sym (same_number x s e) ∙ same_number x t f
of_one OfJournal s t e f = never e
of_one OfTime s t e f = never e

-- an actor's last entry is of one source
pub after_one : (past : List Entry) (who : Actor) (s t : ℕ) → last_is_of s who past ≡ true → last_is_of t who past ≡ true → s ≡ t
after_one [] who s t e f = never e
after_one (x ∷ past) who s t e f = by_own (is_same x.actor who) (after_one past who s t) e f
  where
    by_own : (b : Bool) → (last_is_of s who past ≡ true → last_is_of t who past ≡ true → s ≡ t) → cond b (is_of s (class_of x.kind)) (last_is_of s who past) ≡ true → cond b (is_of t (class_of x.kind)) (last_is_of t who past) ≡ true → s ≡ t
    by_own true h e f = of_one (class_of x.kind) s t e f
    by_own false h e f = h e f

pub actor_same : (a b : Actor) → is_same a b ≡ true → a ≡ b
actor_same (actor.Script i) (actor.Script j) e = ap actor.Script (same_number i j e)
actor_same actor.Auto actor.Auto e = refl
actor_same (actor.Dev c) (actor.Dev d) e = ap actor.Dev (same_number c d e)
actor_same (actor.Timer s) (actor.Timer t) e = ap actor.Timer (same_number s t e)
actor_same actor.Time actor.Time e = refl
actor_same _ _ e = never e

pub and_left : (a b : Bool) → (a && b) ≡ true → a ≡ true
and_left true b e = refl
and_left false b e = never e

pub and_right : (a b : Bool) → (a && b) ≡ true → b ≡ true
and_right true b e = e
and_right false b e = never e

or_left : (a b : Bool) → (a || b) ≡ false → a ≡ false
or_left false b e = refl
or_left true b e = never (sym e)

or_right : (a b : Bool) → (a || b) ≡ false → b ≡ false
or_right false b e = e
or_right true b e = never (sym e)

-- ---- legal entries, as far as calls ask of them

pub record Grown (m : Machine) (past : List Entry) : Type 0 where
  pub in_journal : JournalPart m (journal past)
  pub sources : SourcePart past
  pub joint : JointPart m past
  pub there : list_all (λ e. is_there m (class_of e.kind)) past ≡ true

pub grown : (m : Machine) (past : List Entry) → IsLegal m past → Grown m past
grown m past l = record { in_journal = l.journal; sources = l.sources; joint = l.joint; there = l.histories.there }

pub earlier : (m : Machine) (past : List Entry) (e : Entry) → Grown m (e ∷ past) → Grown m past
earlier m past e g = record {
  in_journal = by_preserved (is_in_journal (class_of e.kind)) g.in_journal;
  sources = g.sources.1;
  joint = g.joint.1;
  there = and_right (is_there m (class_of e.kind)) _ g.there;
}
  where
    by_preserved : (b : Bool) → JournalPart m (cond b (e ∷ journal past) (journal past)) → JournalPart m (journal past)
    by_preserved true h = h.1
    by_preserved false h = h

-- what the journal asked of the entry, by its class
abbrev pub JournalIf : Machine → List Entry → Entry → EntryClass → Type 0
JournalIf m past e OfJournal = JournalStep m (journal past) e OfJournal
JournalIf m past e OfTime = JournalStep m (journal past) e OfTime
JournalIf m past e _ = Unit {0}

pub newest : (m : Machine) (past : List Entry) (e : Entry) → JournalPart m (journal (e ∷ past)) → JournalIf m past e (class_of e.kind)
newest m past e h = by_part (class_of e.kind) refl h
  where
    by_part : (p : EntryClass) → class_of e.kind ≡ p → JournalPart m (cond (is_in_journal p) (e ∷ journal past) (journal past)) → JournalIf m past e p
    by_part OfJournal q h = subst (JournalStep m (journal past) e) q h.0
    by_part OfTime q h = subst (JournalStep m (journal past) e) q h.0
    by_part (Notes s c) q h = tt
    by_part (Moves s x) q h = tt

-- ---- time makes no calls

-- time makes no attempt
pub time_makes_none : (o : Option Actor) (s : Option Stage) → StageMaker o s → is_actor actor.Time o ≡ false
time_makes_none None s h = refl
time_makes_none (Some (actor.Script i)) s h = refl
time_makes_none (Some actor.Auto) s h = refl
time_makes_none (Some (actor.Dev d)) s h = refl
time_makes_none (Some (actor.Timer t)) s h = refl
time_makes_none (Some actor.Time) (Some s) h = absurd h
time_makes_none (Some actor.Time) None h = absurd h

time_makes_no_entry : (m : Machine) (past : List Entry) (e : Entry) → JournalPart m past → e.actor ≡ actor.Time → JournalStep m past e OfJournal → ⊥
time_makes_no_entry m past e j a h =
    let makes : due m past actor.Time e.now ≡ Makes e.kind = subst (λ (x : Actor). due m past x e.now ≡ Makes e.kind) a h.0 in
    let other : is_actor actor.Time (maker past) ≡ false = time_makes_none (maker past) (stage_of past) (lock_agrees m past j).2 in
    gone e.kind (subst (λ (b : Bool). cond b (attempt_due m past e.now) Nothing ≡ Makes e.kind) other makes)

jump_reports_none : (m : Machine) (n : ℕ) (k : Kind) → class_of k ≡ OfTime → report_calls m n k ≡ []
jump_reports_none m n (kind.Begin p d) h = absurd (journal_no_time h)
jump_reports_none m n _ h = refl

none_after : (m : Machine) (b : Bool) (k : ℕ) → calls_after_turn m actor.Time b k ≡ []
none_after m true k = refl
none_after m false k = refl

none_of_time : (m : Machine) (past : List Entry) → JournalPart m past → calls_of m actor.Time past ≡ []
none_of_time m [] h = refl
none_of_time m (e ∷ past) h = by_own (is_same e.actor actor.Time) refl (none_of_time m past h.1)
  where
    by_part : (p : EntryClass) → class_of e.kind ≡ p → e.actor ≡ actor.Time → JournalStep m past e p → report_calls m (attempts past) e.kind ≡ []
    by_part OfTime q a s = jump_reports_none m (attempts past) e.kind q
    by_part OfJournal q a s = absurd (time_makes_no_entry m past e h.1 a s)
    by_part (Notes s c) q a x = absurd x
    by_part (Moves s c) q a x = absurd x

    by_own : (b : Bool) → is_same e.actor actor.Time ≡ b → calls_of m actor.Time past ≡ [] → cond b (calls_of m actor.Time past ++ report_calls m (attempts past) e.kind ++ calls_after_turn m actor.Time (ends_turn e.kind) (turns_ended actor.Time past + 1)) (calls_of m actor.Time past) ≡ []
    by_own false q i = i
    by_own true q i = rw i (rw (by_part (class_of e.kind) refl (actor_same e.actor actor.Time q) h.0) (none_after m (ends_turn e.kind) (turns_ended actor.Time past + 1)))

none_there : {A : Type 0} (xs : List A) (n : ℕ) (x : A) → xs ≡ [] → slice_get xs n ≡ Some x → ⊥
none_there [] n x e f = none≢some x f
none_there (y ∷ ys) n x e f = absurd (cc)

-- time is never inside a call
time_calls_none : (m : Machine) (past : List Entry) → Grown m past → (s : ℕ) → is_actor actor.Time (caller (history s past)) ≡ false
time_calls_none m [] g s = refl
time_calls_none m (e ∷ past) g s = by_source (is_of s (class_of e.kind)) refl (time_calls_none m past (earlier m past e g) s)
  where
    no_note : (who : Actor) → who ≡ actor.Time → (k : Kind) → slice_get (calls_of m who (journal past)) (made (length m.sources + 1) (λ t. history t past) who) ≡ Some k → ⊥
    no_note who a k h = none_there (calls_of m who (journal past)) _ k (subst (λ (x : Actor). calls_of m x (journal past) ≡ []) (sym a) (none_of_time m (journal past) (earlier m past e g).in_journal)) h

    by_actor : (b : Bool) → is_same e.actor actor.Time ≡ b → (c : IsOwnCall m (journal past) (λ t. history t past) e.actor e.kind) → b ≡ false
    by_actor false q c = refl
    by_actor true q c = absurd (no_note actor.Time refl e.kind (subst (λ (x : Actor). IsOwnCall m (journal past) (λ t. history t past) x e.kind) (actor_same e.actor actor.Time q) c))

    by_part : (p : EntryClass) → is_of s p ≡ true → JointStep m past e p → is_actor actor.Time (caller (history s past)) ≡ false → is_actor actor.Time (caller_after p e.actor (caller (history s past))) ≡ false
    by_part (Notes t c) q h i = by_actor (is_same e.actor actor.Time) refl h.0
    by_part (Moves t x) q h i = i
    by_part OfJournal q h i = never q
    by_part OfTime q h i = never q

    by_source : (b : Bool) → is_of s (class_of e.kind) ≡ b → is_actor actor.Time (caller (history s past)) ≡ false → is_actor actor.Time (caller (cond b (e ∷ history s past) (history s past))) ≡ false
    by_source true q i = by_part (class_of e.kind) q g.joint.0 i
    by_source false q i = i

-- ---- if an actor is inside a call

within : (m : Machine) (p : EntryClass) (s : ℕ) → is_of s p ≡ true → is_there m p ≡ true → s < length m.sources + 1
within m (Notes x c) s e f = grind (arith, nat_tests)
within m (Moves x c) s e f = grind (arith, nat_tests)
within m OfJournal s e f = never e
within m OfTime s e f = never e

-- a source that owes something has an entry, so it is there
pub owes_there : (m : Machine) (past : List Entry) (s : ℕ) → list_all (λ e. is_there m (class_of e.kind)) past ≡ true → is_left (owed (history s past)) ≡ true → s < length m.sources + 1
owes_there m [] s f l = never l
owes_there m (e ∷ past) s f l = by_source (is_of s (class_of e.kind)) refl (owes_there m past s (and_right (is_there m (class_of e.kind)) _ f)) l
  where
    by_source : (b : Bool) → is_of s (class_of e.kind) ≡ b → (is_left (owed (history s past)) ≡ true → s < length m.sources + 1) → is_left (owed (cond b (e ∷ history s past) (history s past))) ≡ true → s < length m.sources + 1
    by_source true q h l = within m (class_of e.kind) s q (and_left (is_there m (class_of e.kind)) _ f)
    by_source false q h l = h l

pub outside_all : (n : ℕ) (of : ℕ → List Entry) (who : Actor) (s : ℕ) → is_calling n of who ≡ false → s < n → is_inside (of s) who ≡ true → ⊥
outside_all zero of who s c l i = absurd (omega (arith, l))
outside_all (suc n) of who s c l i = by_number (s == n) refl (outside_all n of who s (or_right (is_inside (of n) who) (is_calling n of who) c))
  where
    by_number : (b : Bool) → (s == n) ≡ b → (s < n → is_inside (of s) who ≡ true → ⊥) → ⊥
    by_number true e h = never (sym (or_left (is_inside (of n) who) (is_calling n of who) c) ∙ subst (λ (t : ℕ). is_inside (of t) who ≡ true) (same_number s n e) i)
    by_number false e h = h (let less : s < n = grind (arith, nat_tests) in less) i

-- an actor inside a call of a source made its last entry there
behind : (m : Machine) (past : List Entry) → Grown m past → (s : ℕ) (who : Actor) → is_inside (history s past) who ≡ true → last_is_of s who past ≡ true
behind m [] g s who i = never i
behind m (e ∷ past) g s who i = by_source (is_of s (class_of e.kind)) refl (behind m past (earlier m past e g) s who) i
  where
    -- an entry of that source is its caller's
    own_call : (p : EntryClass) → is_of s p ≡ true → OwnStep past e p → is_actor who (caller_after p e.actor (caller (history s past))) ≡ true → is_same e.actor who ≡ true
    own_call (Notes t c) q h a = a
    own_call (Moves t x) q h a = subst (λ (o : Option Actor). is_actor who o ≡ true) (h.1 ∙ refl) (subst (λ (u : ℕ). is_actor who (caller (history u past)) ≡ true) (sym (same_number t s q)) a)
    own_call OfJournal q h a = never q
    own_call OfTime q h a = never q

    -- an actor that is inside a call makes no entry elsewhere
    no_other : (p : EntryClass) → is_of s p ≡ false → JointStep m past e p → JournalIf m past e p → e.actor ≡ who → is_inside (history s past) who ≡ true → last_is_of s who past ≡ true → ⊥
    no_other OfJournal q h j a i b = outside_all (length m.sources + 1) (λ t. history t past) e.actor s h.1 (owes_there m past s (earlier m past e g).there (and_left _ _ i)) (subst (λ (x : Actor). is_inside (history s past) x ≡ true) (sym a) i)
    no_other (Notes t c) q h j a i b = outside_all (length m.sources + 1) (λ t. history t past) e.actor s h.1 (owes_there m past s (earlier m past e g).there (and_left _ _ i)) (subst (λ (x : Actor). is_inside (history s past) x ≡ true) (sym a) i)
    no_other (Moves t x) q h j a i b = never (sym q ∙ self t s (after_one past who t s (subst (λ (y : Actor). last_is_of t y past ≡ true) a h) b))
      where
        self : (t s : ℕ) → t ≡ s → (t == s) ≡ true
        self t s e = grind (arith, nat_tests)
    no_other OfTime q h j a i b = never (sym (time_calls_none m past (earlier m past e g) s) ∙ subst (λ (x : Actor). is_actor x (caller (history s past)) ≡ true) (sym a ∙ j.0) (and_right _ _ i))

    by_actor : (b : Bool) → is_same e.actor who ≡ b → is_of s (class_of e.kind) ≡ false → is_inside (history s past) who ≡ true → last_is_of s who past ≡ true → cond b (is_of s (class_of e.kind)) (last_is_of s who past) ≡ true
    by_actor true a q i h = absurd (no_other (class_of e.kind) q g.joint.0 (newest m past e g.in_journal) (actor_same e.actor who a) i h)
    by_actor false a q i h = h

    by_source : (b : Bool) → is_of s (class_of e.kind) ≡ b → (is_inside (history s past) who ≡ true → last_is_of s who past ≡ true) → is_inside (cond b (e ∷ history s past) (history s past)) who ≡ true → cond (is_same e.actor who) (is_of s (class_of e.kind)) (last_is_of s who past) ≡ true
    by_source true q h i =
        let same : is_same e.actor who ≡ true = own_call (class_of e.kind) q g.sources.0 (and_right (is_left (owed (e ∷ history s past))) _ i) in
        rw same q
    by_source false q h i = by_actor (is_same e.actor who) refl q i (h i)

pub inside_after : (m : Machine) (past : List Entry) → IsLegal m past → (s : ℕ) (who : Actor) → is_inside (history s past) who ≡ true → last_is_of s who past ≡ true
inside_after m past l s who i = behind m past (grown m past l) s who i
