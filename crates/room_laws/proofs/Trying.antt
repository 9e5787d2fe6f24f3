-- What an entry is to the attempts of its actor.
use Rattle.std.proofs.Common.{◌≡◌, ◌≢◌, ◌≤◌, ◌<◌, ◌+◌, ◌∙◌, ℕ, Bool, true, false, ◌==◌, List, [], ◌∷◌, length, Option, Some, None, slice_get, slice_set, cond, refl, sym, ap, subst, arith}
use Rattle.std.proofs.lemmas.Bool.{true≢false}
use Rattle.std.proofs.lemmas.Bool.Decides.{nat_tests}
use Rattle.std.proofs.lemmas.List.{length-set, length-replicate, get_or-set_same, get_or-set_other, set_past}
use Rattle.sleep_model.specs.declared.entry.Actor.{Actor}
use Rattle.sleep_model.specs.declared.entry.Actor.TheVariants as actor
use Rattle.sleep_model.specs.declared.entry.Entry.{Entry}
use Rattle.sleep_model.specs.declared.entry.Kind.{Kind}
use Rattle.sleep_model.specs.declared.entry.Kind.TheVariants as kind
use Rattle.sleep_model.specs.declared.machine.Machine.{Machine}
use Rattle.sleep_model.specs.declared.machine.Op.{Op}
use Rattle.sleep_model.specs.declared.machine.Script.{Script}
use Rattle.sleep_model.specs.declared.progress.ScriptPosition.{ScriptPosition}
use Rattle.sleep_model.specs.declared.progress.Stage.{Stage}
use Rattle.sleep_model.specs.declared.progress.Work.{Work}
use Rattle.sleep_model.specs.declared.progress.Work.TheVariants.{Reading, Saving, Attempting, Looking, Napping, Closing}
use Rattle.sleep_model.specs.declared.word.EventNow.{EventNow}
use Rattle.sleep_model.specs.Autosleep.{work, work_step, looks_at, after_look, seen_count, runs, runs_after}
use Rattle.sleep_model.specs.Calls.{ends_step}
use Rattle.sleep_model.specs.Legal.{JournalPart}
use Rattle.sleep_model.specs.Path.{maker, maker_after, is_actor, is_same}
use Rattle.sleep_model.specs.Places.{one_if, is_state}
use Rattle.sleep_model.specs.Scripts.{entry_steps}
use Rattle.sleep_model.specs.Positions.{PositionEffect, position_effect, positions, positions_after, position_after, position_at, first_position}
use Rattle.sleep_laws.proofs.LockHolding.{Moved, Opens, Makes, Beside, Owns, Outside, moved}
use Rattle.sleep_laws.proofs.Made.{Made, StepMade, TaskMade, WorkMade, DeviceMade, EntryMade, ByMaker, ByTask, ByWork, ByDevice, ByTime}
use Rattle.sleep_laws.proofs.MakingOwn.{entry_made}

-- ---- kinds

abbrev pub is_attempt : Kind → Bool
is_attempt (kind.Attempt n guarded) = true
is_attempt _ = false

abbrev pub is_over : Kind → Bool
is_over (kind.Over n r) = true
is_over _ = false

pub maker_is : (k : Kind) (who : Actor) (before : Option Actor) → maker_after k who before ≡ cond (is_attempt k) (Some who) (cond (is_over k) None before)
maker_is (kind.Attempt n guarded) who before = refl
maker_is (kind.Over n r) who before = refl
maker_is _ who before = refl

-- ---- the positions of scripts

pub positions_length : (n : ℕ) (past : List Entry) → length (positions n past) ≡ n
positions_length n [] = length-replicate n first_position
positions_length n (e ∷ past) = by_actor e.actor (positions_length n past)
  where
    by_actor : (a : Actor) → length (positions n past) ≡ n → length (positions_after a (position_effect e.kind) (positions n past)) ≡ n
    by_actor (actor.Script i) l = length-set (positions n past) i (position_after (position_effect e.kind) (position_at (positions n past) i)) ∙ l
    by_actor actor.Auto l = l
    by_actor (actor.Dev d) l = l
    by_actor (actor.Timer t) l = l
    by_actor actor.Time l = l

-- how many of its steps script i has done
abbrev pub done_of : Machine → List Entry → ℕ → ℕ
done_of m past i = (position_at (positions (length m.actors) past) i).done

pub done_other : (m : Machine) (past : List Entry) (e : Entry) (i : ℕ) → is_same e.actor (actor.Script i) ≡ false → done_of m (e ∷ past) i ≡ done_of m past i
done_other m past e i n = by_actor e.actor n
  where
    by_actor : (a : Actor) → is_same a (actor.Script i) ≡ false → (position_at (positions_after a (position_effect e.kind) (positions (length m.actors) past)) i).done ≡ done_of m past i
    by_actor (actor.Script j) n =
        let other : i ≢ j = grind (arith, nat_tests) in
        ap (λ (s : ScriptPosition). s.done) (get_or-set_other (positions (length m.actors) past) j i (position_after (position_effect e.kind) (position_at (positions (length m.actors) past) j)) first_position other)
    by_actor actor.Auto n = refl
    by_actor (actor.Dev d) n = refl
    by_actor (actor.Timer t) n = refl
    by_actor actor.Time n = refl

pub after_done : (part : PositionEffect) (s : ScriptPosition) → (position_after part s).done ≡ cond (ends_step part) (s.done + 1) s.done
after_done PositionEffect.Waits s = refl
after_done PositionEffect.Sets s = refl
after_done (PositionEffect.Sleeps u) s = refl
after_done (PositionEffect.Reads c) s = refl
after_done (PositionEffect.Saves ok) s = refl
after_done PositionEffect.Steps s = refl
after_done PositionEffect.Exits s = refl
after_done PositionEffect.Stays s = refl

-- a script of the machine does one more by an entry that ends a step
pub done_own : (m : Machine) (past : List Entry) (e : Entry) (i : ℕ) → is_same e.actor (actor.Script i) ≡ true → i < length m.actors → done_of m (e ∷ past) i ≡ cond (ends_step (position_effect e.kind)) (done_of m past i + 1) (done_of m past i)
done_own m past e i s l = by_actor e.actor s
  where
    by_actor : (a : Actor) → is_same a (actor.Script i) ≡ true → (position_at (positions_after a (position_effect e.kind) (positions (length m.actors) past)) i).done ≡ cond (ends_step (position_effect e.kind)) (done_of m past i + 1) (done_of m past i)
    by_actor (actor.Script j) s =
        let same : j ≡ i = grind (arith, nat_tests) in
        let within : i < length (positions (length m.actors) past) = omega (arith, positions_length (length m.actors) past) in
        subst (λ (x : ℕ). (position_at (slice_set (positions (length m.actors) past) x (position_after (position_effect e.kind) (position_at (positions (length m.actors) past) x))) i).done ≡ cond (ends_step (position_effect e.kind)) (done_of m past i + 1) (done_of m past i)) (sym same)
        (ap (λ (x : ScriptPosition). x.done) (get_or-set_same (positions (length m.actors) past) i (position_after (position_effect e.kind) (position_at (positions (length m.actors) past) i)) first_position within) ∙ after_done (position_effect e.kind) (position_at (positions (length m.actors) past) i))
    by_actor actor.Auto s = absurd (true≢false (sym s))
    by_actor (actor.Dev d) s = absurd (true≢false (sym s))
    by_actor (actor.Timer t) s = absurd (true≢false (sym s))
    by_actor actor.Time s = absurd (true≢false (sym s))

-- another does none
pub done_out : (m : Machine) (past : List Entry) (e : Entry) (i : ℕ) → is_same e.actor (actor.Script i) ≡ true → length m.actors ≤ i → done_of m (e ∷ past) i ≡ done_of m past i
done_out m past e i s l = by_actor e.actor s
  where
    by_actor : (a : Actor) → is_same a (actor.Script i) ≡ true → (position_at (positions_after a (position_effect e.kind) (positions (length m.actors) past)) i).done ≡ done_of m past i
    by_actor (actor.Script j) s =
        let same : j ≡ i = grind (arith, nat_tests) in
        ap (λ (xs : List ScriptPosition). (position_at xs i).done) (set_past (positions (length m.actors) past) j (position_after (position_effect e.kind) (position_at (positions (length m.actors) past) j)) (omega (arith, positions_length (length m.actors) past)))
    by_actor actor.Auto s = absurd (true≢false (sym s))
    by_actor (actor.Dev d) s = absurd (true≢false (sym s))
    by_actor (actor.Timer t) s = absurd (true≢false (sym s))
    by_actor actor.Time s = absurd (true≢false (sym s))

-- ---- what an entry is to attempts

-- the steps of script i, if there is one
abbrev pub steps_if : Option Script → List Op
steps_if None = []
steps_if (Some s) = entry_steps s

abbrev pub steps_in : Machine → ℕ → List Op
steps_in m i = steps_if (slice_get m.actors i)

-- the operation passes, if there is one
abbrev pub passes : (Op → Bool) → Option Op → Bool
passes test None = false
passes test (Some o) = test o

abbrev pub is_attempting : Work → Bool
is_attempting (Attempting c) = true
is_attempting _ = false

-- the work has run, and is yet to make an attempt
abbrev pub is_trying : Work → Bool
is_trying Reading = true
is_trying (Saving c) = true
is_trying (Attempting c) = true
is_trying _ = false

-- an attempt is made by a script at a write to the state, or by the work if it is to make one
abbrev pub TriesAt : Machine → List Entry → Actor → Type 0
TriesAt m past (actor.Script i) = passes is_state (slice_get (steps_in m i) (done_of m past i)) ≡ true
TriesAt m past actor.Auto = is_attempting (work past) ≡ true
TriesAt m past _ = ⊥

-- what an entry is to attempts: the maker makes it in the open one; it begins one; the work makes it; it is another
pub data Trial (m : Machine) (past : List Entry) (who : Actor) (k : Kind) : Type 0 where
  ByMaking : is_attempt k ≡ false → ends_step (position_effect k) ≡ is_over k → ((w : Work) → work_step k w ≡ cond (is_over k) (looks_at w) w) → is_actor who (maker past) ≡ true → Trial m past who k
  ByTrying : is_attempt k ≡ true → maker past ≡ None → TriesAt m past who → Trial m past who k
  ByWorking : is_attempt k ≡ false → is_over k ≡ false → who ≡ actor.Auto → is_actor who (maker past) ≡ false → one_if (is_trying (work_step k (work past))) + runs past ≤ runs_after k (runs past) + one_if (is_trying (work past)) → Trial m past who k
  ByOther : is_attempt k ≡ false → is_over k ≡ false → is_same who actor.Auto ≡ false → (ends_step (position_effect k) ≡ true → is_actor who (maker past) ≡ false) → Trial m past who k

maker_trial : (m : Machine) (past : List Entry) (now : EventNow) (there : Stage) (k : Kind) → Made m past now there k → (who : Actor) → is_actor who (maker past) ≡ true → Trial m past who k
maker_trial m past now _ _ Made.Ends who a = ByMaking refl refl (λ w. refl) a
maker_trial m past now _ _ _ who a = ByMaking refl refl (λ w. refl) a

step_trial : (m : Machine) (past : List Entry) (now : EventNow) (i : ℕ) (position : ScriptPosition) (asked : Bool) (o : Option Op) (k : Kind) → StepMade m past now position asked o k → is_actor (actor.Script i) (maker past) ≡ false → (is_attempt k ≡ true → maker past ≡ None) → slice_get (steps_in m i) (done_of m past i) ≡ o → Trial m past (actor.Script i) k
step_trial m past now i position asked _ _ (StepMade.Attempts text if_saved f o) a free at = ByTrying refl (free refl) (ap (passes is_state) at)
step_trial m past now i position asked _ _ _ a free at = ByOther refl refl refl (λ x. a)

look_tries : (o : Option ℕ) (c : ℕ) → is_trying (after_look o (Looking c)) ≡ false
look_tries None c = refl
look_tries (Some seen) c = by_test (seen == c)
  where
    by_test : (b : Bool) → is_trying (cond b (Napping None) Closing) ≡ false
    by_test true = refl
    by_test false = refl

-- the work tries once a run
work_less : (m : Machine) (past : List Entry) (now : EventNow) (w : Work) (k : Kind) → WorkMade m past now w k → (r : ℕ) → one_if (is_trying (work_step k w)) + r ≤ runs_after k r + one_if (is_trying w)
work_less m past now _ _ (WorkMade.Looks c) r = let none : one_if (is_trying (after_look (seen_count now) (Looking c))) ≡ 0 = ap one_if (look_tries (seen_count now) c) in omega (arith, none)
work_less m past now _ _ WorkMade.Runs r = omega arith
work_less m past now _ _ _ r = omega arith

no_over : (m : Machine) (past : List Entry) (now : EventNow) (w : Work) (k : Kind) → WorkMade m past now w k → is_over k ≡ false
no_over m past now _ _ WorkMade.Runs = refl
no_over m past now _ _ _ = refl

work_kind : (m : Machine) (past : List Entry) (now : EventNow) (w : Work) (k : Kind) → work past ≡ w → WorkMade m past now w k → (is_attempt k ≡ true → maker past ≡ None) → is_actor actor.Auto (maker past) ≡ false
    → (is_attempt k ≡ false → Trial m past actor.Auto k) → Trial m past actor.Auto k
work_kind m past now _ _ at (WorkMade.Attempts c o) free a other = ByTrying refl (free refl) (ap is_attempting at)
work_kind m past now _ _ at WorkMade.Runs free a other = other refl
work_kind m past now _ _ at _ free a other = other refl

work_trial : (m : Machine) (past : List Entry) (now : EventNow) (w : Work) (k : Kind) → work past ≡ w → WorkMade m past now w k → (is_attempt k ≡ true → maker past ≡ None) → is_actor actor.Auto (maker past) ≡ false → Trial m past actor.Auto k
work_trial m past now w k at x free a =
    work_kind m past now w k at x free a (λ n. ByWorking n (no_over m past now w k x) refl a
    (subst (λ (v : Work). one_if (is_trying (work_step k v)) + runs past ≤ runs_after k (runs past) + one_if (is_trying v)) (sym at) (work_less m past now w k x (runs past))))

device_trial : (m : Machine) (past : List Entry) (now : EventNow) (d : ℕ) (k : Kind) → DeviceMade m past now d k → is_actor (actor.Dev d) (maker past) ≡ false → Trial m past (actor.Dev d) k
device_trial m past now d _ (DeviceMade.OwnFails p r w g f) a = ByOther refl refl refl (λ x. a)
device_trial m past now d _ _ a = ByOther refl refl refl (λ x. a)

entry_trial : (m : Machine) (past : List Entry) (now : EventNow) (who : Actor) (k : Kind) → EntryMade m past now who k → (is_attempt k ≡ true → maker past ≡ None) → Trial m past who k
entry_trial m past now who k (ByMaker _ here there _ a e c x) free = maker_trial m past now there k x who a
entry_trial m past now _ _ (ByTask i _ a (TaskMade.Freezes s go asked)) free = ByOther refl refl refl (λ x. a)
entry_trial m past now _ k (ByTask i _ a (TaskMade.Steps s _ o go at x)) free = step_trial m past now i _ _ o k x a free (ap (λ z. slice_get (steps_if z) (done_of m past i)) go.script ∙ at)
entry_trial m past now _ k (ByWork w _ a s o e x) free = work_trial m past now w k e x free a
entry_trial m past now _ k (ByDevice d _ a x) free = device_trial m past now d k x a
entry_trial m past now _ _ ByTime free = ByOther refl refl refl (λ x. absurd (true≢false (sym x)))

-- an attempt begins if none is open
no_attempt : (m : Machine) (past : List Entry) (now : EventNow) (there : Stage) (k : Kind) → Made m past now there k → is_attempt k ≡ false
no_attempt m past now _ _ Made.Ends = refl
no_attempt m past now _ _ _ = refl

outside_attempt : (k : Kind) {st : Option Stage} → Outside st k → is_attempt k ≡ false
outside_attempt _ Outside.Frozen = refl
outside_attempt _ _ = refl

device_attempt : (m : Machine) (past : List Entry) (now : EventNow) (d : ℕ) (k : Kind) → DeviceMade m past now d k → is_attempt k ≡ false
device_attempt m past now d _ (DeviceMade.OwnFails p r w g f) = refl
device_attempt m past now d _ _ = refl

pub moved_free : (m : Machine) (past : List Entry) (now : EventNow) (who : Actor) (k : Kind) → Moved m past now who k → is_attempt k ≡ true → maker past ≡ None
moved_free m past now _ _ (Opens who n guarded f e) a = f
moved_free m past now _ _ (Makes who here there k i e c x) a = absurd (true≢false (sym a ∙ no_attempt m past now there k x))
moved_free m past now _ _ (Beside who k i x) a = absurd (true≢false (sym a ∙ outside_attempt k x))
moved_free m past now _ _ (Owns d k x) a = absurd (true≢false (sym a ∙ device_attempt m past now d k x))

-- what each entry of a legal journal is to attempts
pub trial : (m : Machine) (past : List Entry) (e : Entry) → JournalPart m (e ∷ past) → Trial m past e.actor e.kind
trial m past e h = entry_trial m past e.now e.actor e.kind (entry_made m past e h) (moved_free m past e.now e.actor e.kind (moved m past e h))

-- ---- actors

pub same_actor : (a b : Actor) → is_same a b ≡ true → a ≡ b
same_actor (actor.Script i) (actor.Script j) e = let same : i ≡ j = grind (arith, nat_tests) in ap actor.Script same
same_actor actor.Auto actor.Auto e = refl
same_actor (actor.Dev i) (actor.Dev j) e = let same : i ≡ j = grind (arith, nat_tests) in ap actor.Dev same
same_actor (actor.Timer i) (actor.Timer j) e = let same : i ≡ j = grind (arith, nat_tests) in ap actor.Timer same
same_actor actor.Time actor.Time e = refl
same_actor _ _ e = absurd (true≢false (sym e))

pub same_self : (a : Actor) → is_same a a ≡ true
same_self (actor.Script i) = grind (arith, nat_tests)
same_self actor.Auto = refl
same_self (actor.Dev i) = grind (arith, nat_tests)
same_self (actor.Timer i) = grind (arith, nat_tests)
same_self actor.Time = refl

-- one is the maker, so another is not
not_maker : (who a : Actor) (o : Option Actor) → is_actor who o ≡ true → is_same who a ≡ false → is_actor a o ≡ false
not_maker who a None h n = refl
not_maker who a (Some x) h n = ap (λ y. is_same y a) (same_actor x who h) ∙ n

-- an entry of another does not change whether an actor makes the open attempt
pub maker_other : (m : Machine) (past : List Entry) (e : Entry) (a : Actor) → Trial m past e.actor e.kind → is_same e.actor a ≡ false → is_actor a (maker (e ∷ past)) ≡ is_actor a (maker past)
maker_other m past e a (ByMaking t s w h) n = ap (is_actor a) (maker_is e.kind e.actor (maker past)) ∙ (ap (λ b. is_actor a (cond b (Some e.actor) (cond (is_over e.kind) None (maker past)))) t ∙ by_over (is_over e.kind))
  where
    by_over : (b : Bool) → is_actor a (cond b None (maker past)) ≡ is_actor a (maker past)
    by_over true = sym (not_maker e.actor a (maker past) h n)
    by_over false = refl
maker_other m past e a (ByTrying t f at) n =
    ap (is_actor a) (maker_is e.kind e.actor (maker past)) ∙ (ap (λ b. is_actor a (cond b (Some e.actor) (cond (is_over e.kind) None (maker past)))) t ∙ (n ∙ sym (ap (is_actor a) f)))
maker_other m past e a (ByWorking t o s h l) n =
    ap (is_actor a) (maker_is e.kind e.actor (maker past)) ∙ (ap (λ b. is_actor a (cond b (Some e.actor) (cond (is_over e.kind) None (maker past)))) t ∙ ap (λ b. is_actor a (cond b None (maker past))) o)
maker_other m past e a (ByOther t o s r) n =
    ap (is_actor a) (maker_is e.kind e.actor (maker past)) ∙ (ap (λ b. is_actor a (cond b (Some e.actor) (cond (is_over e.kind) None (maker past)))) t ∙ ap (λ b. is_actor a (cond b None (maker past))) o)
