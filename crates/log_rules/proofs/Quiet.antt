-- Who makes an attempt has no call left outside of a callback, and a frozen task has none.
use Rattle.std.proofs.Common.{◌≡◌, ◌+◌, ◌++◌, ◌∙◌, ◌⊎◌, inl, inr, ℕ, zero, suc, Bool, true, false, not, ◌==◌, ◌||◌, List, [], ◌∷◌, length, map, Option, Some, None, is_some, cond, refl, sym, ap, subst, arith, slice_get, slice_set}
use Rattle.std.proofs.lemmas.Bool.Decides.{nat_tests}
use Rattle.sleep_model.specs.declared.entry.Actor.{Actor}
use Rattle.sleep_model.specs.declared.entry.Actor.TheVariants as actor
use Rattle.sleep_model.specs.declared.entry.Entry.{Entry}
use Rattle.sleep_model.specs.declared.entry.Group.{Group}
use Rattle.sleep_model.specs.declared.entry.Kind.{Kind}
use Rattle.sleep_model.specs.declared.entry.Kind.TheVariants as kind
use Rattle.sleep_model.specs.declared.entry.Thaw.{Thaw}
use Rattle.sleep_model.specs.declared.entry.Thaw.TheVariants as thaw
use Rattle.sleep_model.specs.declared.machine.Machine.{Machine}
use Rattle.sleep_model.specs.declared.machine.Op.{Op}
use Rattle.sleep_model.specs.declared.machine.Script.{Script}
use Rattle.sleep_model.specs.declared.machine.TaskKind.{TaskKind}
use Rattle.sleep_model.specs.declared.machine.TaskKind.TheVariants.{Kthread}
use Rattle.sleep_model.specs.declared.progress.Callback.{Callback}
use Rattle.sleep_model.specs.declared.progress.Freezing.{Freezing}
use Rattle.sleep_model.specs.declared.progress.ScriptPosition.{ScriptPosition}
use Rattle.sleep_model.specs.declared.progress.Stage.{Stage}
use Rattle.sleep_model.specs.declared.progress.Work.{Work}
use Rattle.sleep_model.specs.declared.word.EventNow.{EventNow}
use Rattle.sleep_model.specs.declared.word.WordKind.{WordKind}
use Rattle.sleep_model.specs.Calls.{calls_of, calls_due, ends_turn, is_note_of, made, notes_of, report_calls}
use Rattle.sleep_model.specs.Attempt.{failed}
use Rattle.sleep_model.specs.Devices.{callback, callback_after, is_device}
use Rattle.sleep_model.specs.Freezer.{all_asked, all_let_go, freezing, freezing_at, freezings, freezings_after, is_in, is_task, let_go, unasked}
use Rattle.sleep_model.specs.Legal.{IsOwnCall, JournalPart, JournalStep, JointStep, last_is_of}
use Rattle.sleep_model.specs.EntryClasses.{EntryClass, OfJournal, Notes, Moves, OfTime, class_of, is_in_journal, journal}
use Rattle.sleep_model.specs.Path.{attempts, maker, maker_after, is_actor, is_same}
use Rattle.sleep_model.specs.Sources.{history, is_of}
use Rattle.sleep_model.specs.Table.{stage_of}
use Rattle.sleep_laws.proofs.DeviceLaws.{all_restored}
use Rattle.sleep_laws.proofs.LockHolding.{lock_agrees, StageMaker}
use Rattle.sleep_laws.proofs.Made.{Made, StepMade, TaskMade, WorkMade, DeviceMade, EntryMade, ByMaker, ByTask, ByWork, ByDevice, ByTime}
use Rattle.sleep_laws.proofs.MakingOwn.{entry_made}
use Rattle.sleep_laws.proofs.Telling.{none≢some, some≢none}
use Rattle.rule_definitions.specs.Attempts.{KeepsAttempts}
use Rattle.rule_definitions.specs.Path.{ReportsOf}
use Rattle.rule_definitions.specs.Questions.{is_maker}
use Rattle.log_rules.proofs.Facts.{never, journal_no_time}
use Rattle.log_rules.proofs.Makers.{all}
use Rattle.log_rules.proofs.Inside.{Grown, earlier, actor_same, same_actor, time_makes_none}

-- ---- calls that are made and owed

-- all calls that the actor owes are made
abbrev Even : Machine → List Entry → Actor → Type 0
Even m past who = made (length m.sources + 1) (λ s. history s past) who ≡ calls_due m who (journal past)

past_none : {A : Type 0} (xs : List A) → slice_get xs (length xs) ≡ None
past_none [] = refl
past_none (x ∷ xs) = past_none xs

pub past_end : {A : Type 0} (xs : List A) (n : ℕ) (x : A) → n ≡ length xs → slice_get xs n ≡ Some x → ⊥
past_end xs n x e f = none≢some x (sym (past_none xs) ∙ subst (λ (k : ℕ). slice_get xs k ≡ Some x) e f)

notes_other : (e : Entry) (past : List Entry) (who : Actor) (s : ℕ) → is_note_of who e (class_of e.kind) ≡ false → notes_of who (history s (e ∷ past)) ≡ notes_of who (history s past)
notes_other e past who s h = by_source (is_of s (class_of e.kind))
  where
    by_source : (b : Bool) → notes_of who (cond b (e ∷ history s past) (history s past)) ≡ notes_of who (history s past)
    by_source true = rw h refl
    by_source false = refl

made_other : (n : ℕ) (e : Entry) (past : List Entry) (who : Actor) → is_note_of who e (class_of e.kind) ≡ false → made n (λ s. history s (e ∷ past)) who ≡ made n (λ s. history s past) who
made_other zero e past who h = refl
made_other (suc n) e past who h = rw (notes_other e past who n h, made_other n e past who h) refl

no_note : (e : Entry) (who : Actor) (p : EntryClass) → is_same e.actor who ≡ false → is_note_of who e p ≡ false
no_note e who (Notes s c) h = h
no_note e who (Moves s x) h = refl
no_note e who OfJournal h = refl
no_note e who OfTime h = refl

no_note_preserved : (e : Entry) (who : Actor) (p : EntryClass) → is_in_journal p ≡ true → is_note_of who e p ≡ false
no_note_preserved e who OfJournal h = refl
no_note_preserved e who OfTime h = refl
no_note_preserved e who (Notes s c) h = never h
no_note_preserved e who (Moves s x) h = never h

no_note_moves : (e : Entry) (who : Actor) (p : EntryClass) (s : ℕ) (x : WordKind) → p ≡ Moves s x → is_note_of who e p ≡ false
no_note_moves e who p s x q = subst (λ (y : EntryClass). is_note_of who e y ≡ false) (sym q) refl

-- another's entry leaves an actor's calls as they were
calls_other : (m : Machine) (e : Entry) (past : List Entry) (who : Actor) → is_same e.actor who ≡ false → calls_due m who (e ∷ past) ≡ calls_due m who past
calls_other m e past who h = rw h refl

nil_after : {A : Type 0} (xs : List A) → xs ++ [] ++ [] ≡ xs
nil_after [] = refl
nil_after (x ∷ xs) = ap (λ ys. x ∷ ys) (nil_after xs)

-- an entry that begins no callback and ends no turn brings no calls
calls_quiet : (m : Machine) (e : Entry) (past : List Entry) (who : Actor) → is_same e.actor who ≡ true → report_calls m (attempts past) e.kind ≡ [] → ends_turn e.kind ≡ false → calls_due m who (e ∷ past) ≡ calls_due m who past
calls_quiet m e past who h r t = rw h (rw r (rw t (ap length (nil_after (calls_of m who past)))))

-- ---- what entries do to the maker and its callback

maker_no_device : (who : Actor) (o : Option Actor) (s : Option Stage) → is_actor who o ≡ true → StageMaker o s → is_device who ≡ false
maker_no_device (actor.Script i) o s a h = refl
maker_no_device actor.Auto o s a h = refl
maker_no_device (actor.Timer i) o s a h = refl
maker_no_device actor.Time o s a h = refl
maker_no_device (actor.Dev d) None s a h = never a
maker_no_device (actor.Dev d) (Some (actor.Dev e)) (Some s) a h = absurd h
maker_no_device (actor.Dev d) (Some (actor.Dev e)) None a h = absurd h
maker_no_device (actor.Dev d) (Some _) s a h = never a

maker_no_timer : (t : ℕ) (o : Option Actor) (s : Option Stage) → is_actor (actor.Timer t) o ≡ true → StageMaker o s → ⊥
maker_no_timer t None s a h = never a
maker_no_timer t (Some (actor.Timer u)) (Some s) a h = h
maker_no_timer t (Some (actor.Timer u)) None a h = h
maker_no_timer t (Some _) s a h = never a

-- two makers of one attempt are one
one_maker : (a b : Actor) (o : Option Actor) → is_actor a o ≡ true → is_actor b o ≡ true → a ≡ b
one_maker a b None e f = never e
one_maker a b (Some x) e f = sym (actor_same x a e) ∙ actor_same x b f

-- an entry does not move the maker and its callback, or begins an attempt
abbrev IsAttempt : Kind → Type 0
IsAttempt (kind.Attempt n guarded) = Unit {0}
IsAttempt _ = ⊥

abbrev IsQuiescent : Kind → Type 0
IsQuiescent k = ((a : Actor) (o : Option Actor) → maker_after k a o ≡ o) × ((b : Bool) (o : Option Callback) → callback_after k b o ≡ o)

step_effect : (m : Machine) (past : List Entry) (now : EventNow) (position : ScriptPosition) (asked : Bool) (o : Option Op) (k : Kind) → StepMade m past now position asked o k → IsQuiescent k ⊎ IsAttempt k
step_effect m past now position asked _ _ (StepMade.Attempts text if_saved f o) = inr tt
step_effect m past now position asked _ _ _ = inl (λ a o. refl, λ b o. refl)

task_effect : (m : Machine) (past : List Entry) (now : EventNow) (i : ℕ) (k : Kind) → TaskMade m past now i k → IsQuiescent k ⊎ IsAttempt k
task_effect m past now i _ (TaskMade.Freezes s go f) = inl (λ a o. refl, λ b o. refl)
task_effect m past now i _ (TaskMade.Steps s k o go e x) = step_effect m past now _ _ o k x

work_effect : (m : Machine) (past : List Entry) (now : EventNow) (w : Work) (k : Kind) → WorkMade m past now w k → IsQuiescent k ⊎ IsAttempt k
work_effect m past now _ _ (WorkMade.Attempts c o) = inr tt
work_effect m past now _ _ _ = inl (λ a o. refl, λ b o. refl)

-- an entry by who makes the attempt then, outside of a callback, brings no calls; another's leaves the maker and its callback as they were
abbrev Lasts : Machine → List Entry → Actor → Kind → Actor → Type 0
Lasts m past a k who =
    (is_same a who ≡ false → (is_actor who (maker past) ≡ true) × (callback past ≡ None))
    × (is_same a who ≡ true → (report_calls m (attempts past) k ≡ []) × (ends_turn k ≡ false))

effect_lasts : (m : Machine) (past : List Entry) (a : Actor) (k : Kind) (who : Actor) → is_actor a (maker past) ≡ false → IsQuiescent k ⊎ IsAttempt k → is_actor who (maker_after k a (maker past)) ≡ true → callback_after k (is_device a) (callback past) ≡ None → Lasts m past a k who
effect_lasts m past a k who f (inl h) x c =
    let there : is_actor who (maker past) ≡ true = subst (λ (o : Option Actor). is_actor who o ≡ true) (h.0 a (maker past)) x in
    (λ s. (there, sym (h.1 (is_device a) (callback past)) ∙ c), λ s. never (sym f ∙ subst (λ (y : Actor). is_actor y (maker past) ≡ true) (sym (actor_same a who s)) there))
effect_lasts m past a (kind.Attempt n guarded) who f (inr h) x c = (λ s. never (sym s ∙ x), λ s. (refl, refl))
effect_lasts m past a _ who f (inr h) x c = absurd h

made_lasts : (m : Machine) (past : List Entry) (now : EventNow) (there : Stage) (k : Kind) (a who : Actor) → Made m past now there k → is_device a ≡ false → is_actor a (maker past) ≡ true → is_actor who (maker_after k a (maker past)) ≡ true → callback_after k (is_device a) (callback past) ≡ None → Lasts m past a k who
made_lasts m past now _ _ a who Made.Ends d y x c = never x
made_lasts m past now _ _ a who (Made.BeginsDown p e i t f g) d y x c = absurd (some≢none _ (subst (λ (b : Bool). callback_after (kind.Begin p e) b (callback past) ≡ None) d c))
made_lasts m past now _ _ a who (Made.BeginsUp p e u g n o w) d y x c = absurd (some≢none _ (subst (λ (b : Bool). callback_after (kind.Begin p e) b (callback past) ≡ None) d c))
made_lasts m past now _ _ a who (Made.EndsDown p q e r i g) d y x c = (λ s. never (sym s ∙ subst (λ (z : Actor). is_same a z ≡ true) (one_maker a who (maker past) y x) (same_actor a)), λ s. (refl, refl))
made_lasts m past now _ _ a who (Made.EndsUp p q e r i g) d y x c = (λ s. never (sym s ∙ subst (λ (z : Actor). is_same a z ≡ true) (one_maker a who (maker past) y x) (same_actor a)), λ s. (refl, refl))
made_lasts m past now _ _ a who _ d y x c = (λ s. (x, c), λ s. (refl, refl))

device_lasts : (m : Machine) (past : List Entry) (now : EventNow) (d : ℕ) (k : Kind) (who : Actor) → DeviceMade m past now d k → is_actor (actor.Dev d) (maker past) ≡ false → is_actor who (maker_after k (actor.Dev d) (maker past)) ≡ true → callback_after k true (callback past) ≡ None → Lasts m past (actor.Dev d) k who
device_lasts m past now d _ who (DeviceMade.OwnFails p r w g f) n x c = (λ s. (x, c), λ s. never (sym n ∙ subst (λ (y : Actor). is_actor y (maker past) ≡ true) (sym (actor_same (actor.Dev d) who s)) x))
device_lasts m past now d _ who _ n x c = (λ s. (x, c), λ s. never (sym n ∙ subst (λ (y : Actor). is_actor y (maker past) ≡ true) (sym (actor_same (actor.Dev d) who s)) x))

entry_lasts : (m : Machine) (past : List Entry) (now : EventNow) (a : Actor) (k : Kind) (who : Actor) → EntryMade m past now a k → StageMaker (maker past) (stage_of past) → is_actor who (maker_after k a (maker past)) ≡ true → callback_after k (is_device a) (callback past) ≡ None → Lasts m past a k who
entry_lasts m past now a k who (ByMaker _ here there _ y e c d) h x f = made_lasts m past now there k a who d (maker_no_device a (maker past) (stage_of past) y h) y x f
entry_lasts m past now _ k who (ByTask i _ y t) h x f = effect_lasts m past (actor.Script i) k who y (task_effect m past now i k t) x f
entry_lasts m past now _ k who (ByWork w _ y s o e t) h x f = effect_lasts m past actor.Auto k who y (work_effect m past now w k t) x f
entry_lasts m past now _ k who (ByDevice d _ y t) h x f = device_lasts m past now d k who t y x f
entry_lasts m past now _ _ who ByTime h x f = effect_lasts m past actor.Time kind.Jump who (time_makes_none (maker past) (stage_of past) h) (inl (λ a o. refl, λ b o. refl)) x f

-- ---- who makes an attempt, outside of a callback

no_next : (m : Machine) (past : List Entry) (of : ℕ → List Entry) (who : Actor) (k : Kind) → is_actor who (maker past) ≡ true → StageMaker (maker past) (stage_of past) → made (length m.sources + 1) of who ≡ calls_due m who past → IsOwnCall m past of who k → ⊥
no_next m past of (actor.Timer t) k y h e c = maker_no_timer t (maker past) (stage_of past) y h
no_next m past of (actor.Script i) k y h e c = past_end (calls_of m (actor.Script i) past) _ k e c
no_next m past of actor.Auto k y h e c = past_end (calls_of m actor.Auto past) _ k e c
no_next m past of (actor.Dev d) k y h e c = past_end (calls_of m (actor.Dev d) past) _ k e c
no_next m past of actor.Time k y h e c = past_end (calls_of m actor.Time past) _ k e c

pub maker_even : (m : Machine) (past : List Entry) → Grown m past → (who : Actor) → is_actor who (maker (journal past)) ≡ true → callback (journal past) ≡ None → Even m past who
maker_even m [] g who x c = never x
maker_even m (e ∷ past) g who x c = by_part (class_of e.kind) refl (maker_even m past (earlier m past e g) who) g.in_journal g.joint.0 x c
  where
    held_here : StageMaker (maker (journal past)) (stage_of (journal past))
    held_here = (lock_agrees m (journal past) (earlier m past e g).in_journal).2

    kept : (p : EntryClass) → class_of e.kind ≡ p → is_in_journal p ≡ true → JointStep m past e p → JournalPart m (e ∷ journal past) → (is_actor who (maker (journal past)) ≡ true → callback (journal past) ≡ None → Even m past who) → is_actor who (maker (e ∷ journal past)) ≡ true → callback (e ∷ journal past) ≡ None → made (length m.sources + 1) (λ s. history s (e ∷ past)) who ≡ calls_due m who (e ∷ journal past)
    kept p q k t j i x c =
        let last : Lasts m (journal past) e.actor e.kind who = entry_lasts m (journal past) e.now e.actor e.kind who (entry_made m (journal past) e j) held_here x c in
        made_other (length m.sources + 1) e past who (no_note_preserved e who (class_of e.kind) (ap is_in_journal q ∙ k)) ∙ by_actor (is_same e.actor who) refl p q t k last
      where
        by_actor : (b : Bool) → is_same e.actor who ≡ b → (p : EntryClass) → class_of e.kind ≡ p → JointStep m past e p → is_in_journal p ≡ true → Lasts m (journal past) e.actor e.kind who → made (length m.sources + 1) (λ s. history s past) who ≡ calls_due m who (e ∷ journal past)
        by_actor false s p q t k l = i (l.0 s).0 (l.0 s).1 ∙ sym (calls_other m e (journal past) who s)
        by_actor true s OfJournal q t k l = subst (λ (y : Actor). made (length m.sources + 1) (λ s. history s past) y ≡ calls_due m y (journal past)) (actor_same e.actor who s) t.0 ∙ sym (calls_quiet m e (journal past) who s (l.1 s).0 (l.1 s).1)
        by_actor true s OfTime q t k l =
            let time : e.actor ≡ actor.Time = (subst (JournalStep m (journal past) e) q j.0).0 in
            let own : who ≡ actor.Time = sym (actor_same e.actor who s) ∙ time in
            never (sym (time_makes_none (maker (e ∷ journal past)) (stage_of (e ∷ journal past)) (lock_agrees m (e ∷ journal past) j).2) ∙ subst (λ (y : Actor). is_actor y (maker (e ∷ journal past)) ≡ true) own x)
        by_actor true s (Notes u v) q t k l = never k
        by_actor true s (Moves u v) q t k l = never k

    noted : (b : Bool) → is_same e.actor who ≡ b → Even m past who → IsOwnCall m (journal past) (λ t. history t past) e.actor e.kind → is_actor who (maker (journal past)) ≡ true → made (length m.sources + 1) (λ s. history s (e ∷ past)) who ≡ calls_due m who (journal past)
    noted false s i c x = made_other (length m.sources + 1) e past who (no_note e who (class_of e.kind) s) ∙ i
    noted true s i c x = absurd (no_next m (journal past) (λ t. history t past) who e.kind x held_here i (subst (λ (y : Actor). IsOwnCall m (journal past) (λ t. history t past) y e.kind) (actor_same e.actor who s) c))

    by_part : (p : EntryClass) → class_of e.kind ≡ p → (is_actor who (maker (journal past)) ≡ true → callback (journal past) ≡ None → Even m past who) → JournalPart m (cond (is_in_journal p) (e ∷ journal past) (journal past)) → JointStep m past e p → is_actor who (maker (cond (is_in_journal p) (e ∷ journal past) (journal past))) ≡ true → callback (cond (is_in_journal p) (e ∷ journal past) (journal past)) ≡ None → made (length m.sources + 1) (λ s. history s (e ∷ past)) who ≡ calls_due m who (cond (is_in_journal p) (e ∷ journal past) (journal past))
    by_part OfJournal q i j t x c = kept OfJournal q refl t j i x c
    by_part OfTime q i j t x c = kept OfTime q refl t j i x c
    by_part (Notes s v) q i j t x c = noted (is_same e.actor who) refl (i x c) t.0 x
    by_part (Moves s y) q i j t x c = made_other (length m.sources + 1) e past who (no_note_moves e who (class_of e.kind) s y q) ∙ i x c

-- ---- a frozen task

-- what a freeze asks of a task that is frozen after it was so before it
asked_frozen : (g : Group) (a : Actor) (n : ℕ) (ss : List Script) (fs : List Freezing) (i : ℕ) → (freezing_at (all_asked g a n ss fs) i).frozen ≡ true → (freezing_at fs i).frozen ≡ true
asked_frozen g a n [] fs i h = never h
asked_frozen g a n (s ∷ ss) [] i h = never h
asked_frozen g a n (s ∷ ss) (f ∷ fs) zero h = by_group (is_in g s.kind) h
  where
    by_group : (b : Bool) → (cond b (record { asked = f.asked || not (is_task n a); frozen = false }) f).frozen ≡ true → f.frozen ≡ true
    by_group true h = never h
    by_group false h = h
asked_frozen g a n (s ∷ ss) (f ∷ fs) (suc i) h = asked_frozen g a (suc n) ss fs i h

thawed_frozen : (those : Thaw) (ss : List Script) (fs : List Freezing) (i : ℕ) → (freezing_at (all_let_go those ss fs) i).frozen ≡ true → (freezing_at fs i).frozen ≡ true
thawed_frozen those [] fs i h = never h
thawed_frozen those (s ∷ ss) [] i h = never h
thawed_frozen those (s ∷ ss) (f ∷ fs) zero h = by_kind those s.kind h
  where
    by_kind : (those : Thaw) (k : TaskKind) → (let_go those k f).frozen ≡ true → f.frozen ≡ true
    by_kind thaw.All k h = never h
    by_kind thaw.Kernel Kthread h = never h
    by_kind thaw.Kernel _ h = h
thawed_frozen those (s ∷ ss) (f ∷ fs) (suc i) h = thawed_frozen those ss fs i h

set_other : (fs : List Freezing) (j i : ℕ) (f : Freezing) → (j == i) ≡ false → freezing_at (slice_set fs j f) i ≡ freezing_at fs i
set_other [] j i f h = refl
set_other (x ∷ fs) zero zero f h = never (sym h)
set_other (x ∷ fs) zero (suc i) f h = refl
set_other (x ∷ fs) (suc j) zero f h = refl
set_other (x ∷ fs) (suc j) (suc i) f h = set_other fs j i f (let less : (j == i) ≡ false = grind (arith, nat_tests) in less)

-- another's entry freezes no task
other_frozen : (ss : List Script) (a : Actor) (k : Kind) (fs : List Freezing) (i : ℕ) → is_same a (actor.Script i) ≡ false → (freezing_at (freezings_after ss a k fs) i).frozen ≡ true → (freezing_at fs i).frozen ≡ true
other_frozen ss a (kind.Freeze g) fs i s h = asked_frozen g a 0 ss fs i h
other_frozen ss a (kind.Thaw those) fs i s h = thawed_frozen those ss fs i h
other_frozen ss (actor.Script j) kind.Frozen fs i s h = ap (λ (f : Freezing). f.frozen) (sym (set_other fs j i _ s)) ∙ h
other_frozen ss actor.Auto kind.Frozen fs i s h = h
other_frozen ss (actor.Dev d) kind.Frozen fs i s h = h
other_frozen ss (actor.Timer t) kind.Frozen fs i s h = h
other_frozen ss actor.Time kind.Frozen fs i s h = h
other_frozen ss a _ fs i s h = h

-- ---- a frozen task has no call left, and is inside none

-- all its calls are made, and its last entry is no source's
abbrev Rests : Machine → List Entry → Actor → Type 0
Rests m past who = Even m past who × ((s : ℕ) → last_is_of s who past ≡ false)

abbrev IsTask : Actor → Type 0
IsTask (actor.Script i) = Unit {0}
IsTask _ = ⊥

-- an entry of its own after which a task that makes no attempt is frozen says that it freezes
abbrev SaysFrozen : Machine → List Entry → ℕ → Kind → Type 0
SaysFrozen m past i k = (freezing_at (freezings_after m.actors (actor.Script i) k (freezings m.actors past)) i).frozen ≡ true → k ≡ kind.Frozen

step_thawed : (m : Machine) (past : List Entry) (now : EventNow) (i : ℕ) (position : ScriptPosition) (asked : Bool) (o : Option Op) (k : Kind) → StepMade m past now position asked o k → (freezing m i past).frozen ≡ false → SaysFrozen m past i k
step_thawed m past now i position asked _ _ StepMade.Exits f h = never (sym f ∙ h)
step_thawed m past now i position asked _ _ _ f h = never (sym f ∙ h)

task_thawed : (m : Machine) (past : List Entry) (now : EventNow) (i : ℕ) (k : Kind) → TaskMade m past now i k → SaysFrozen m past i k
task_thawed m past now i _ (TaskMade.Freezes s go f) h = refl
task_thawed m past now i _ (TaskMade.Steps s k o go e x) h = step_thawed m past now i _ _ o k x go.thawed h

none_frozen : (ss : List Script) (i : ℕ) → (freezing_at (map (λ s. unasked) ss) i).frozen ≡ false
none_frozen [] i = refl
none_frozen (s ∷ ss) zero = refl
none_frozen (s ∷ ss) (suc i) = none_frozen ss i

-- after an entry of who makes the attempt, which makes none any more, no task is frozen
over_thaws : (m : Machine) (past : List Entry) (time : ℕ) (now : EventNow) (there : Stage) (k : Kind) (i : ℕ) → Made m past now there k → is_actor (actor.Script i) (maker past) ≡ true → JournalPart m (record { time = time; now = now; actor = actor.Script i; kind = k } ∷ past) → is_actor (actor.Script i) (maker_after k (actor.Script i) (maker past)) ≡ false → (freezing_at (freezings_after m.actors (actor.Script i) k (freezings m.actors past)) i).frozen ≡ true → ⊥
over_thaws m past time now _ _ i Made.Ends y j x h =
    never (sym (subst (λ (fs : List Freezing). (freezing_at fs i).frozen ≡ false) (sym (all_restored m past (record { time = time; now = now; actor = actor.Script i; kind = kind.Over (attempts past) (failed past) }) j).tasks) (none_frozen m.actors i)) ∙ h)
over_thaws m past time now _ _ i _ y j x h = never (sym x ∙ y)

own_frozen : (m : Machine) (past : List Entry) (time : ℕ) (now : EventNow) (a : Actor) (k : Kind) (i : ℕ) → EntryMade m past now a k → a ≡ actor.Script i → JournalPart m (record { time = time; now = now; actor = a; kind = k } ∷ past) → is_actor (actor.Script i) (maker_after k a (maker past)) ≡ false → (freezing_at (freezings_after m.actors a k (freezings m.actors past)) i).frozen ≡ true → k ≡ kind.Frozen
own_frozen m past time now a k i (ByMaker _ here there _ y e c d) s j x h =
    absurd (over_thaws m past time now there k i d (subst (λ (z : Actor). is_actor z (maker past) ≡ true) s y)
    (subst (λ (z : Actor). JournalPart m (record { time = time; now = now; actor = z; kind = k } ∷ past)) s j)
    (subst (λ (z : Actor). is_actor (actor.Script i) (maker_after k z (maker past)) ≡ false) s x)
    (subst (λ (z : Actor). (freezing_at (freezings_after m.actors z k (freezings m.actors past)) i).frozen ≡ true) s h))
own_frozen m past time now _ k i (ByTask n _ y t) s j x h =
    let same : n ≡ i = cc in
    task_thawed m past now i k (subst (λ (z : ℕ). TaskMade m past now z k) same t) (subst (λ (z : Actor). (freezing_at (freezings_after m.actors z k (freezings m.actors past)) i).frozen ≡ true) s h)
own_frozen m past time now _ k i (ByWork w _ y sl o e t) s j x h = absurd (subst IsTask (sym s) tt)
own_frozen m past time now _ k i (ByDevice d _ y t) s j x h = absurd (subst IsTask (sym s) tt)
own_frozen m past time now _ _ i ByTime s j x h = absurd (subst IsTask (sym s) tt)

by_effect : (m : Machine) (past : List Entry) (a : Actor) (k : Kind) (who : Actor) → KeepsAttempts past k → IsQuiescent k ⊎ IsAttempt k → is_actor who (maker_after k a (maker past)) ≡ false → is_actor who (maker past) ≡ false
by_effect m past a k who n (inl h) x = subst (λ (o : Option Actor). is_actor who o ≡ false) (h.0 a (maker past)) x
by_effect m past a (kind.Attempt i guarded) who n (inr h) x = rw n.2 refl
by_effect m past a _ who n (inr h) x = absurd h

by_device : (m : Machine) (past : List Entry) (now : EventNow) (d : ℕ) (k : Kind) (who : Actor) → DeviceMade m past now d k → is_actor who (maker_after k (actor.Dev d) (maker past)) ≡ false → is_actor who (maker past) ≡ false
by_device m past now d _ who (DeviceMade.OwnFails p r w g f) x = x
by_device m past now d _ who _ x = x

-- another's entry lets nobody begin or end an attempt but itself
other_maker : (m : Machine) (past : List Entry) (time : ℕ) (now : EventNow) (a : Actor) (k : Kind) (who : Actor) → EntryMade m past now a k → StageMaker (maker past) (stage_of past) → KeepsAttempts past k → is_same a who ≡ false → is_actor who (maker_after k a (maker past)) ≡ false → is_actor who (maker past) ≡ false
other_maker m past time now a k who (ByMaker _ here there _ y e c d) h n s x = other (is_actor who (maker past)) refl
  where
    other : (b : Bool) → is_actor who (maker past) ≡ b → b ≡ false
    other false e = refl
    other true f = never (sym s ∙ subst (λ (z : Actor). is_same a z ≡ true) (one_maker a who (maker past) y f) (same_actor a))
other_maker m past time now _ k who (ByTask i _ y t) h n s x = by_effect m past (actor.Script i) k who n (task_effect m past now i k t) x
other_maker m past time now _ k who (ByWork w _ y sl o e t) h n s x = by_effect m past actor.Auto k who n (work_effect m past now w k t) x
other_maker m past time now _ k who (ByDevice d _ y t) h n s x = by_device m past now d k who t x
other_maker m past time now _ _ who ByTime h n s x = x

time_attempts : (past : List Entry) (k : Kind) → class_of k ≡ OfTime → KeepsAttempts past k
time_attempts past (kind.Attempt n guarded) h = absurd (journal_no_time h)
time_attempts past (kind.Over n r) h = absurd (journal_no_time h)
time_attempts past _ h = tt

-- a frozen task that makes no attempt has no call left, and is inside none
pub frozen_rests : (m : Machine) (past : List Entry) → Grown m past → (i : ℕ) → is_actor (actor.Script i) (maker (journal past)) ≡ false → (freezing m i (journal past)).frozen ≡ true → Rests m past (actor.Script i)
frozen_rests m [] g i x f = never (sym (none_frozen m.actors i) ∙ f)
frozen_rests m (e ∷ past) g i x f = by_part (class_of e.kind) refl (frozen_rests m past (earlier m past e g) i) g.in_journal g.joint.0 x f
  where
    -- what another's entry leaves
    beside : is_same e.actor (actor.Script i) ≡ false → Rests m past (actor.Script i) → (made (length m.sources + 1) (λ s. history s (e ∷ past)) (actor.Script i) ≡ calls_due m (actor.Script i) (journal past)) × ((s : ℕ) → last_is_of s (actor.Script i) (e ∷ past) ≡ false)
    beside s r = (made_other (length m.sources + 1) e past (actor.Script i) (no_note e (actor.Script i) (class_of e.kind) s) ∙ r.0, λ t. rw s (r.1 t))

    kept : (p : EntryClass) → class_of e.kind ≡ p → is_in_journal p ≡ true → KeepsAttempts (journal past) e.kind → JointStep m past e p → JournalPart m (e ∷ journal past) → (is_actor (actor.Script i) (maker (journal past)) ≡ false → (freezing m i (journal past)).frozen ≡ true → Rests m past (actor.Script i)) → is_actor (actor.Script i) (maker (e ∷ journal past)) ≡ false → (freezing m i (e ∷ journal past)).frozen ≡ true → (made (length m.sources + 1) (λ s. history s (e ∷ past)) (actor.Script i) ≡ calls_due m (actor.Script i) (e ∷ journal past)) × ((s : ℕ) → last_is_of s (actor.Script i) (e ∷ past) ≡ false)
    kept p q k n t j r x f = by_actor (is_same e.actor (actor.Script i)) refl p q k t
      where
        by_actor : (b : Bool) → is_same e.actor (actor.Script i) ≡ b → (p : EntryClass) → class_of e.kind ≡ p → is_in_journal p ≡ true → JointStep m past e p → (made (length m.sources + 1) (λ s. history s (e ∷ past)) (actor.Script i) ≡ calls_due m (actor.Script i) (e ∷ journal past)) × ((s : ℕ) → last_is_of s (actor.Script i) (e ∷ past) ≡ false)
        by_actor false s p q k t =
            let made_by : EntryMade m (journal past) e.now e.actor e.kind = entry_made m (journal past) e j in
            let role : is_actor (actor.Script i) (maker (journal past)) ≡ false = other_maker m (journal past) e.time e.now e.actor e.kind (actor.Script i) made_by (lock_agrees m (journal past) j.1).2 n s x in
            let b : (made (length m.sources + 1) (λ s. history s (e ∷ past)) (actor.Script i) ≡ calls_due m (actor.Script i) (journal past)) × ((s : ℕ) → last_is_of s (actor.Script i) (e ∷ past) ≡ false) = beside s (r role (other_frozen m.actors e.actor e.kind (freezings m.actors (journal past)) i s f)) in
            (b.0 ∙ sym (calls_other m e (journal past) (actor.Script i) s), b.1)
        by_actor true s OfJournal q k t =
            let own : e.actor ≡ actor.Script i = actor_same e.actor (actor.Script i) s in
            let says : e.kind ≡ kind.Frozen = own_frozen m (journal past) e.time e.now e.actor e.kind i (entry_made m (journal past) e j) own j x f in
            let even : Even m past (actor.Script i) = subst (λ (y : Actor). made (length m.sources + 1) (λ s. history s past) y ≡ calls_due m y (journal past)) own t.0 in
            let reports : report_calls m (attempts (journal past)) e.kind ≡ [] = subst (λ (y : Kind). report_calls m (attempts (journal past)) y ≡ []) (sym says) refl in
            let turns : ends_turn e.kind ≡ false = subst (λ (y : Kind). ends_turn y ≡ false) (sym says) refl in (
              made_other (length m.sources + 1) e past (actor.Script i) (no_note_preserved e (actor.Script i) (class_of e.kind) (ap is_in_journal q)) ∙ even ∙ sym (calls_quiet m e (journal past) (actor.Script i) s reports turns),
              λ z. rw s (ap (is_of z) q),
            )
        by_actor true s OfTime q k t = absurd (subst IsTask (sym (actor_same e.actor (actor.Script i) s) ∙ (subst (JournalStep m (journal past) e) q j.0).0) tt)
        by_actor true s (Notes u v) q k t = never k
        by_actor true s (Moves u v) q k t = never k

    noted : (b : Bool) → is_same e.actor (actor.Script i) ≡ b → Rests m past (actor.Script i) → IsOwnCall m (journal past) (λ t. history t past) e.actor e.kind → (made (length m.sources + 1) (λ s. history s (e ∷ past)) (actor.Script i) ≡ calls_due m (actor.Script i) (journal past)) × ((s : ℕ) → last_is_of s (actor.Script i) (e ∷ past) ≡ false)
    noted false s r c = beside s r
    noted true s r c = absurd (past_end (calls_of m (actor.Script i) (journal past)) _ e.kind r.0 (subst (λ (y : Actor). IsOwnCall m (journal past) (λ t. history t past) y e.kind) (actor_same e.actor (actor.Script i) s) c))

    stepped : (b : Bool) → is_same e.actor (actor.Script i) ≡ b → Rests m past (actor.Script i) → (u : ℕ) → last_is_of u e.actor past ≡ true → (made (length m.sources + 1) (λ s. history s (e ∷ past)) (actor.Script i) ≡ calls_due m (actor.Script i) (journal past)) × ((s : ℕ) → last_is_of s (actor.Script i) (e ∷ past) ≡ false)
    stepped false s r u c = beside s r
    stepped true s r u c = never (sym (r.1 u) ∙ subst (λ (y : Actor). last_is_of u y past ≡ true) (actor_same e.actor (actor.Script i) s) c)

    by_part : (p : EntryClass) → class_of e.kind ≡ p → (is_actor (actor.Script i) (maker (journal past)) ≡ false → (freezing m i (journal past)).frozen ≡ true → Rests m past (actor.Script i)) → JournalPart m (cond (is_in_journal p) (e ∷ journal past) (journal past)) → JointStep m past e p → is_actor (actor.Script i) (maker (cond (is_in_journal p) (e ∷ journal past) (journal past))) ≡ false → (freezing m i (cond (is_in_journal p) (e ∷ journal past) (journal past))).frozen ≡ true → (made (length m.sources + 1) (λ s. history s (e ∷ past)) (actor.Script i) ≡ calls_due m (actor.Script i) (cond (is_in_journal p) (e ∷ journal past) (journal past))) × ((s : ℕ) → last_is_of s (actor.Script i) (e ∷ past) ≡ false)
    by_part OfJournal q r j t x f = kept OfJournal q refl ((all m (journal past) e.now e.actor e.kind).keeps j.1 (subst (JournalStep m (journal past) e) q j.0).0).most.attempts t j r x f
    by_part OfTime q r j t x f = kept OfTime q refl (time_attempts (journal past) e.kind q) t j r x f
    by_part (Notes u v) q r j t x f = noted (is_same e.actor (actor.Script i)) refl (r x f) t.0
    by_part (Moves u v) q r j t x f = stepped (is_same e.actor (actor.Script i)) refl (r x f) u t

-- ---- what a call says of its actor

-- who makes the attempt makes a note only inside a callback
pub note_reports : (m : Machine) (past : List Entry) → Grown m past → (who : Actor) (k : Kind) → IsOwnCall m (journal past) (λ t. history t past) who k → (b : Bool) → is_maker (journal past) who ≡ b → ReportsOf (journal past) b
note_reports m past g who k c false e = tt
note_reports m past g who k c true e = by_callback (callback (journal past)) refl
  where
    by_callback : (o : Option Callback) → callback (journal past) ≡ o → is_some o ≡ true
    by_callback (Some x) f = refl
    by_callback None f = absurd (no_next m (journal past) (λ t. history t past) who k e (lock_agrees m (journal past) g.in_journal).2 (maker_even m past g who e f) c)

-- a task outside attempts of its own is not frozen
abbrev pub ThawedActor : Machine → List Entry → Actor → Bool → Type 0
ThawedActor m past (actor.Script i) false = (freezing m i past).frozen ≡ false
ThawedActor m past _ _ = Unit {0}

-- a frozen task makes no note
pub note_thawed : (m : Machine) (past : List Entry) → Grown m past → (who : Actor) (k : Kind) → IsOwnCall m (journal past) (λ t. history t past) who k → (b : Bool) → is_maker (journal past) who ≡ b → ThawedActor m (journal past) who b
note_thawed m past g (actor.Script i) k c false e = by_freezing (freezing m i (journal past)).frozen refl
  where
    by_freezing : (b : Bool) → (freezing m i (journal past)).frozen ≡ b → b ≡ false
    by_freezing false f = refl
    by_freezing true f = absurd (past_end (calls_of m (actor.Script i) (journal past)) _ k (frozen_rests m past g i e f).0 c)
note_thawed m past g (actor.Script i) k c true e = tt
note_thawed m past g actor.Auto k c b e = tt
note_thawed m past g (actor.Dev d) k c b e = tt
note_thawed m past g (actor.Timer t) k c b e = tt
note_thawed m past g actor.Time k c b e = tt

-- nor a step of a call
pub step_thawed_actor : (m : Machine) (past : List Entry) → Grown m past → (who : Actor) (s : ℕ) → last_is_of s who past ≡ true → (b : Bool) → is_maker (journal past) who ≡ b → ThawedActor m (journal past) who b
step_thawed_actor m past g (actor.Script i) s c false e = by_freezing (freezing m i (journal past)).frozen refl
  where
    by_freezing : (b : Bool) → (freezing m i (journal past)).frozen ≡ b → b ≡ false
    by_freezing false f = refl
    by_freezing true f = never (sym ((frozen_rests m past g i e f).1 s) ∙ c)
step_thawed_actor m past g (actor.Script i) s c true e = tt
step_thawed_actor m past g actor.Auto s c b e = tt
step_thawed_actor m past g (actor.Dev d) s c b e = tt
step_thawed_actor m past g (actor.Timer t) s c b e = tt
step_thawed_actor m past g actor.Time s c b e = tt
