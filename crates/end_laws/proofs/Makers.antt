-- After a legal list each actor may make one entry; so its makers determine the list.
use Rattle.std.proofs.Common.{◌≡◌, ◌<◌, ◌+◌, ◌++◌, ◌∙◌, ℕ, zero, suc, Bool, true, false, ◌==◌, ◌&&◌, ◌||◌, List, [], ◌∷◌, length, map, Option, Some, None, slice_get, cond, refl, sym, ap, subst, arith}
use Rattle.std.specs.List.{list_all}
use Rattle.std.proofs.lemmas.Bool.{true≢false}
use Rattle.std.proofs.lemmas.Bool.Decides.{nat_tests}
use Rattle.sleep_model.specs.declared.entry.Actor.{Actor}
use Rattle.sleep_model.specs.declared.entry.Actor.TheVariants as actor
use Rattle.sleep_model.specs.declared.entry.Entry.{Entry}
use Rattle.sleep_model.specs.declared.entry.Kind.{Kind}
use Rattle.sleep_model.specs.declared.entry.Kind.TheVariants as kind
use Rattle.sleep_model.specs.declared.machine.Machine.{Machine}
use Rattle.sleep_model.specs.declared.progress.Due.TheVariants.{Makes}
use Rattle.sleep_model.specs.declared.progress.Stage.{Stage}
use Rattle.sleep_model.specs.declared.word.EventNow.{EventNow}
use Rattle.sleep_model.specs.declared.word.WordKind.{WordKind}
use Rattle.sleep_model.specs.Calls.{calls_after_turn, calls_of, ends_turn, is_calling, is_left, made, report_calls, turns_ended}
use Rattle.sleep_model.specs.Due.{due}
use Rattle.sleep_model.specs.Legal.{IsLegal, IsOnTime, IsOwnCall, JointStep, JournalPart, JournalStep, OwnStep, is_there}
use Rattle.sleep_model.specs.Numbers.{numbers, time_of}
use Rattle.sleep_model.specs.EntryClasses.{EntryClass, OfJournal, Notes, Moves, OfTime, is_in_journal, journal, class_of}
use Rattle.sleep_model.specs.Path.{attempts, is_actor, is_same, maker}
use Rattle.sleep_model.specs.Legal.{last_is_of}
use Rattle.sleep_model.specs.Sources.{IsNext, caller, history, is_of, owed}
use Rattle.sleep_model.specs.Table.{stage_of}
use Rattle.sleep_laws.proofs.Activity.{same_number}
use Rattle.sleep_laws.proofs.Ending.{and_left}
use Rattle.sleep_laws.proofs.LockHolding.{StageMaker, lock_agrees}
use Rattle.sleep_laws.proofs.Made.{EntryMade, ByMaker, ByTask, ByWork, ByDevice, ByTime}
use Rattle.sleep_laws.proofs.MakingOwn.{entry_made}
use Rattle.sleep_laws.proofs.Telling.{none≢some, some_is}
use Rattle.room_laws.proofs.Trying.{same_actor}
use Rattle.room_laws.proofs.FittingHistories.{fit_rest}
use Rattle.end_laws.specs.Makers.{MakersDetermineEntries, MakersDetermineLogs, call_next, call_or_turn, entry_by, entry_if, first_step, is_inside_call, kind_next, last_source, source_in, step_kind, step_next, time_next}
use Rattle.end_laws.proofs.Waking.{journal_rest}

-- ---- small facts

same_as : (a : Actor) → is_same a a ≡ true
same_as (actor.Script i) = same_number i
same_as actor.Auto = refl
same_as (actor.Dev i) = same_number i
same_as (actor.Timer i) = same_number i
same_as actor.Time = refl

get_after : (xs : List Kind) (n : ℕ) → n ≡ length xs → slice_get xs n ≡ None
get_after [] n e = refl
get_after (x ∷ xs) zero e = absurd (omega arith)
get_after (x ∷ xs) (suc n) e = get_after xs n (omega arith)

-- the rest of a legal list is legal
pub legal_rest : (m : Machine) (e : Entry) (past : List Entry) → IsLegal m (e ∷ past) → IsLegal m past
legal_rest m e past h = record {
  journal = journal_rest m e (journal past) (is_in_journal (class_of e.kind)) h.journal;
  sources = h.sources.1;
  histories = fit_rest m e past h.histories;
  placed = h.placed.2;
  joint = h.joint.1;
}

-- ---- the entries of time

-- time makes no attempt, and neither does a timer
abbrev IsTask : Actor → Type 0
IsTask (actor.Timer s) = ⊥
IsTask actor.Time = ⊥
IsTask _ = Unit {0}

maker_task : (who : Actor) (o : Option Actor) (s : Option Stage) → is_actor who o ≡ true → StageMaker o s → IsTask who
maker_task (actor.Timer i) (Some (actor.Timer j)) s a h = absurd h
maker_task (actor.Timer i) None s a h = absurd (true≢false (sym a))
maker_task (actor.Timer i) (Some _) s a h = absurd (true≢false (sym a))
maker_task actor.Time (Some actor.Time) s a h = absurd h
maker_task actor.Time None s a h = absurd (true≢false (sym a))
maker_task actor.Time (Some _) s a h = absurd (true≢false (sym a))
maker_task _ o s a h = tt

-- an entry of the journal that is no jump is a task's, the work's or a device's
turn_task : (m : Machine) (past : List Entry) (now : EventNow) (who : Actor) (k : Kind) → JournalPart m past → EntryMade m past now who k → class_of k ≡ OfJournal → IsTask who
turn_task m past now who k j (ByMaker _ here there _ a e c x) p = maker_task who (maker past) (stage_of past) a (lock_agrees m past j).2
turn_task m past now _ k j (ByTask i _ a x) p = tt
turn_task m past now _ k j (ByWork w _ a s o e x) p = tt
turn_task m past now _ k j (ByDevice d _ a x) p = tt
turn_task m past now _ _ j ByTime p = absurd (let bad : OfTime ≡ OfJournal = p in cc)

report_jump : (m : Machine) (n : ℕ) (k : Kind) → class_of k ≡ OfTime → report_calls m n k ≡ []
report_jump m n (kind.Begin p d) e = absurd (let bad : OfJournal ≡ OfTime = e in cc)
report_jump m n _ e = refl

after_time : (m : Machine) (b : Bool) (k : ℕ) → calls_after_turn m actor.Time b k ≡ []
after_time m true k = refl
after_time m false k = refl

-- time owes no calls
time_calls : (m : Machine) (past : List Entry) → JournalPart m past → calls_of m actor.Time past ≡ []
time_calls m [] h = refl
time_calls m (e ∷ past) h = by_same (is_same e.actor actor.Time) refl (time_calls m past h.1)
  where
    by_class : (p : EntryClass) → class_of e.kind ≡ p → e.actor ≡ actor.Time → JournalStep m past e p → calls_of m actor.Time past ≡ [] → calls_of m actor.Time past ++ report_calls m (attempts past) e.kind ++ calls_after_turn m actor.Time (ends_turn e.kind) (turns_ended actor.Time past + 1) ≡ []
    by_class OfJournal x a s none = absurd (subst IsTask a (turn_task m past e.now e.actor e.kind h.1 (entry_made m past e h) x))
    by_class OfTime x a s none =
        ap (λ (c : List Kind). c ++ report_calls m (attempts past) e.kind ++ calls_after_turn m actor.Time (ends_turn e.kind) (turns_ended actor.Time past + 1)) none
        ∙ (ap (λ (c : List Kind). c ++ calls_after_turn m actor.Time (ends_turn e.kind) (turns_ended actor.Time past + 1)) (report_jump m (attempts past) e.kind x) ∙ after_time m (ends_turn e.kind) (turns_ended actor.Time past + 1))
    by_class (Notes s c) x a s' none = absurd s'
    by_class (Moves s c) x a s' none = absurd s'

    by_same : (b : Bool) → is_same e.actor actor.Time ≡ b → calls_of m actor.Time past ≡ [] → cond b (calls_of m actor.Time past ++ report_calls m (attempts past) e.kind ++ calls_after_turn m actor.Time (ends_turn e.kind) (turns_ended actor.Time past + 1)) (calls_of m actor.Time past) ≡ []
    by_same true s none = by_class (class_of e.kind) refl (same_actor e.actor actor.Time s) h.0 none
    by_same false s none = none

-- a call of an actor that owes none is none
no_call : (m : Machine) (past : List Entry) (of : ℕ → List Entry) (k : Kind) → JournalPart m past → (who : Actor) → who ≡ actor.Time → IsOwnCall m past of who k → ⊥
no_call m past of k j who a h =
    let own : IsOwnCall m past of actor.Time k = subst (λ (w : Actor). IsOwnCall m past of w k) a h in
    none≢some k (sym (ap (λ (c : List Kind). slice_get c (made (length m.sources + 1) of actor.Time)) (time_calls m past j)) ∙ own)

-- time makes no entry of a source
time_outside : (m : Machine) (past : List Entry) → IsLegal m past → (s : ℕ) → last_is_of s actor.Time past ≡ false
time_outside m [] h s = refl
time_outside m (e ∷ past) h s = by_same (is_same e.actor actor.Time) refl (λ t. time_outside m past (legal_rest m e past h) t)
  where
    by_class : (p : EntryClass) → e.actor ≡ actor.Time → JointStep m past e p → ((t : ℕ) → last_is_of t actor.Time past ≡ false) → is_of s p ≡ false
    by_class OfJournal a t rest = refl
    by_class OfTime a t rest = refl
    by_class (Notes x c) a t rest = absurd (no_call m (journal past) (λ y. history y past) e.kind (legal_rest m e past h).journal e.actor a t.0)
    by_class (Moves x c) a t rest = absurd (true≢false (sym t ∙ (ap (λ (w : Actor). last_is_of x w past) a ∙ rest x)))

    by_same : (b : Bool) → is_same e.actor actor.Time ≡ b → ((t : ℕ) → last_is_of t actor.Time past ≡ false) → cond b (is_of s (class_of e.kind)) (last_is_of s actor.Time past) ≡ false
    by_same true x rest = by_class (class_of e.kind) (same_actor e.actor actor.Time x) h.joint.0 rest
    by_same false x rest = rest s

-- ---- a step on the word

or_first : (a b : Bool) → a ≡ true → (a || b) ≡ true
or_first true b e = refl
or_first false b e = absurd (true≢false (sym e))

or_second : (a b : Bool) → b ≡ true → (a || b) ≡ true
or_second true b e = refl
or_second false b e = e

both : (a b : Bool) → a ≡ true → b ≡ true → (a && b) ≡ true
both true b x y = y
both false b x y = absurd (true≢false (sym x))

-- who makes a call that owes steps is inside it
calling_at : (n : ℕ) (of : ℕ → List Entry) (who : Actor) (s : ℕ) → s < n → is_left (owed (of s)) ≡ true → caller (of s) ≡ Some who → is_calling n of who ≡ true
calling_at zero of who s l o c = absurd (omega arith)
calling_at (suc n) of who s l o c = by_last (s == n) refl (λ k. calling_at n of who s k o c)
  where
    by_last : (b : Bool) → (s == n) ≡ b → (s < n → is_calling n of who ≡ true) → is_calling (suc n) of who ≡ true
    by_last true x rest =
        let same : s ≡ n = grind (arith, nat_tests) in
        let left : is_left (owed (of n)) ≡ true = subst (λ (k : ℕ). is_left (owed (of k)) ≡ true) same o in
        let called : caller (of n) ≡ Some who = subst (λ (k : ℕ). caller (of k) ≡ Some who) same c in
        or_first (is_left (owed (of n)) && is_actor who (caller (of n))) (is_calling n of who) (both (is_left (owed (of n))) (is_actor who (caller (of n))) left (ap (is_actor who) called ∙ same_as who))
    by_last false x rest =
        let less : s < n = grind (arith, nat_tests) in
        or_second (is_left (owed (of n)) && is_actor who (caller (of n))) (is_calling n of who) (rest less)

source_of : (s : ℕ) (p : EntryClass) → is_of s p ≡ true → source_in p ≡ Some s
source_of s (Notes t c) h = let same : t ≡ s = grind (arith, nat_tests) in ap Some same
source_of s (Moves t c) h = let same : t ≡ s = grind (arith, nat_tests) in ap Some same
source_of s OfJournal h = absurd (true≢false (sym h))
source_of s OfTime h = absurd (true≢false (sym h))

source_is : (who : Actor) (past : List Entry) (s : ℕ) → last_is_of s who past ≡ true → last_source who past ≡ Some s
source_is who [] s h = absurd (true≢false (sym h))
source_is who (e ∷ past) s h = by_same (is_same e.actor who) h (λ k. source_is who past s k)
  where
    by_same : (b : Bool) → cond b (is_of s (class_of e.kind)) (last_is_of s who past) ≡ true → (last_is_of s who past ≡ true → last_source who past ≡ Some s) → cond b (source_in (class_of e.kind)) (last_source who past) ≡ Some s
    by_same true h rest = source_of s (class_of e.kind) h
    by_same false h rest = rest h

first_is : (s : ℕ) (x : WordKind) (steps : List WordKind) → IsNext x steps → (first_step s steps ≡ Some (step_kind s x)) × (is_left steps ≡ true)
first_is s x [] h = absurd h
first_is s x (y ∷ steps) h = (ap (λ z. Some (step_kind s z)) h, refl)

move_of : EntryClass → Option Kind
move_of (Moves s x) = Some (step_kind s x)
move_of _ = None

move_kind : (k : Kind) (s : ℕ) (x : WordKind) → class_of k ≡ Moves s x → step_kind s x ≡ k
unfolding move_of
move_kind (kind.Start t) s x p = sym (some_is _ _ (ap move_of p))
move_kind (kind.Finish t) s x p = sym (some_is _ _ (ap move_of p))
move_kind (kind.Hard t) s x p = sym (some_is _ _ (ap move_of p))
move_kind _ s x p = absurd (none≢some _ (ap move_of p))

jump_kind : (k : Kind) → class_of k ≡ OfTime → kind.Jump ≡ k
jump_kind kind.Jump p = refl
jump_kind _ p = absurd (cc)

-- ---- one entry

-- any actor but time
abbrev IsNoTime : Actor → Type 0
IsNoTime actor.Time = ⊥
IsNoTime _ = Unit {0}

task_no_time : (who : Actor) → IsTask who → IsNoTime who
task_no_time (actor.Timer s) t = absurd t
task_no_time actor.Time t = absurd t
task_no_time _ t = tt

filled : (e : Entry) (past : List Entry) (o : Option ℕ) (q : Option Kind) → o ≡ Some e.time → q ≡ Some e.kind → e.now ≡ numbers past → entry_if (numbers past) e.actor o q ≡ Some e
filled e past o q t k n =
    ap (λ x. entry_if (numbers past) e.actor x q) t
    ∙ (ap (λ x. entry_if (numbers past) e.actor (Some e.time) x) k ∙ ap (λ w. entry_if w e.actor (Some e.time) (Some e.kind)) (sym n))

module _ (m : Machine) (past : List Entry) where
  time_is : (who : Actor) → IsNoTime who → time_next m past who ≡ Some (time_of past)
  time_is actor.Time n = absurd n
  time_is _ n = refl

  inside : (who : Actor) → IsNoTime who → is_inside_call m past who ≡ true → kind_next m past who ≡ step_next past (last_source who past)
  inside actor.Time n c = absurd n
  inside (actor.Timer s) n c = ap (λ b. cond b (step_next past (last_source (actor.Timer s) past)) (Some (kind.Expire s))) c
  inside (actor.Script i) n c = ap (λ b. cond b (step_next past (last_source (actor.Script i) past)) (call_or_turn (call_next m past (actor.Script i)) (due m (journal past) (actor.Script i) (numbers past)))) c
  inside actor.Auto n c = ap (λ b. cond b (step_next past (last_source actor.Auto past)) (call_or_turn (call_next m past actor.Auto) (due m (journal past) actor.Auto (numbers past)))) c
  inside (actor.Dev d) n c = ap (λ b. cond b (step_next past (last_source (actor.Dev d) past)) (call_or_turn (call_next m past (actor.Dev d)) (due m (journal past) (actor.Dev d) (numbers past)))) c

  outside : (who : Actor) → IsTask who → is_inside_call m past who ≡ false → kind_next m past who ≡ call_or_turn (call_next m past who) (due m (journal past) who (numbers past))
  outside actor.Time n c = absurd n
  outside (actor.Timer s) n c = absurd n
  outside (actor.Script i) n c = ap (λ b. cond b (step_next past (last_source (actor.Script i) past)) (call_or_turn (call_next m past (actor.Script i)) (due m (journal past) (actor.Script i) (numbers past)))) c
  outside actor.Auto n c = ap (λ b. cond b (step_next past (last_source actor.Auto past)) (call_or_turn (call_next m past actor.Auto) (due m (journal past) actor.Auto (numbers past)))) c
  outside (actor.Dev d) n c = ap (λ b. cond b (step_next past (last_source (actor.Dev d) past)) (call_or_turn (call_next m past (actor.Dev d)) (due m (journal past) (actor.Dev d) (numbers past)))) c

  -- a note is the next call of its actor
  noted : (who : Actor) (k : Kind) → is_inside_call m past who ≡ false → IsOwnCall m (journal past) (λ t. history t past) who k → IsNoTime who → kind_next m past who ≡ Some k
  noted actor.Time k c h n = absurd n
  noted (actor.Timer s) k c h n = ap (λ b. cond b (step_next past (last_source (actor.Timer s) past)) (Some (kind.Expire s))) c ∙ ap Some (sym h)
  noted (actor.Script i) k c h n = outside (actor.Script i) tt c ∙ ap (λ o. call_or_turn o (due m (journal past) (actor.Script i) (numbers past))) h
  noted actor.Auto k c h n = outside actor.Auto tt c ∙ ap (λ o. call_or_turn o (due m (journal past) actor.Auto (numbers past))) h
  noted (actor.Dev d) k c h n = outside (actor.Dev d) tt c ∙ ap (λ o. call_or_turn o (due m (journal past) (actor.Dev d) (numbers past))) h

no_time : (who : Actor) → (who ≡ actor.Time → ⊥) → IsNoTime who
no_time actor.Time n = absurd (n refl)
no_time _ n = tt

determined : (m : Machine) (e : Entry) (past : List Entry) → IsLegal m (e ∷ past) → entry_by m past e.actor ≡ Some e
determined m e past h = by_class (class_of e.kind) refl h.journal h.joint.0 h.sources.0 h.placed.1 (and_left (is_there m (class_of e.kind)) (list_all (λ x. is_there m (class_of x.kind)) past) h.histories.there)
  where
    before : IsLegal m past
    before = legal_rest m e past h

    of : ℕ → List Entry
    of s = history s past

    by_class : (p : EntryClass) → class_of e.kind ≡ p → JournalPart m (cond (is_in_journal p) (e ∷ journal past) (journal past)) → JointStep m past e p → OwnStep past e p → IsOnTime past e.time p → is_there m p ≡ true → entry_by m past e.actor ≡ Some e
    by_class OfJournal x j t o at there =
        let task : IsTask e.actor = turn_task m (journal past) e.now e.actor e.kind j.1 (entry_made m (journal past) e j) x in
        let due_is : due m (journal past) e.actor (numbers past) ≡ Makes e.kind = subst (λ (w : EventNow). due m (journal past) e.actor w ≡ Makes e.kind) h.placed.0 (subst (JournalStep m (journal past) e) x j.0).0 in
        let none : call_next m past e.actor ≡ None = get_after (calls_of m e.actor (journal past)) (made (length m.sources + 1) (λ s. history s past) e.actor) t.0 in
        filled e past (time_next m past e.actor) (kind_next m past e.actor) (time_is m past e.actor (task_no_time e.actor task) ∙ ap Some (sym at))
        (outside m past e.actor task t.1 ∙ (ap (λ c. call_or_turn c (due m (journal past) e.actor (numbers past))) none ∙ ap (call_or_turn None) due_is)) h.placed.0
    by_class (Notes s call) x j t o at there =
        let off_attempt : IsNoTime e.actor = no_time e.actor (λ a. no_call m (journal past) (λ y. history y past) e.kind before.journal e.actor a t.0) in
        filled e past (time_next m past e.actor) (kind_next m past e.actor) (time_is m past e.actor off_attempt ∙ ap Some (sym at)) (noted m past e.actor e.kind t.1 t.0 off_attempt) h.placed.0
    by_class (Moves s move) x j t o at there =
        let off_attempt : IsNoTime e.actor = no_time e.actor (λ a. true≢false (sym t ∙ (ap (λ (w : Actor). last_is_of s w past) a ∙ time_outside m past before s))) in
        let next = first_is s move (owed (history s past)) o.0 in
        let within : s < length m.sources + 1 = grind (arith, nat_tests) in
        let calling : is_inside_call m past e.actor ≡ true = calling_at (length m.sources + 1) (λ y. history y past) e.actor s within next.1 o.1 in
        filled e past (time_next m past e.actor) (kind_next m past e.actor) (time_is m past e.actor off_attempt ∙ ap Some (sym at))
        (inside m past e.actor off_attempt calling ∙ (ap (step_next past) (source_is e.actor past s t) ∙ (next.0 ∙ ap Some (move_kind e.kind s move x)))) h.placed.0
    by_class OfTime x j t o at there =
        let time : e.actor ≡ actor.Time = (subst (JournalStep m (journal past) e) x j.0).0 in
        filled e past (time_next m past e.actor) (kind_next m past e.actor) (ap (time_next m past) time ∙ t.least) (ap (kind_next m past) time ∙ ap Some (jump_kind e.kind x)) h.placed.0

pub determines_entries : MakersDetermineEntries
determines_entries m [] h = tt
determines_entries m (e ∷ past) h = (determined m e past h, determines_entries m past (legal_rest m e past h))

pub determines_logs : MakersDetermineLogs
determines_logs m [] [] h k same = refl
determines_logs m [] (f ∷ other) h k same = absurd (cc)
determines_logs m (e ∷ one) [] h k same = absurd (cc)
determines_logs m (e ∷ one) (f ∷ other) h k same =
    let actors : map (λ (x : Entry). x.actor) one ≡ map (λ (x : Entry). x.actor) other = cc in
    let maker' : e.actor ≡ f.actor = cc in
    let rest : one ≡ other = determines_logs m one other (legal_rest m e one h) (legal_rest m f other k) actors in
    let moved : entry_by m one e.actor ≡ entry_by m other f.actor = ap (λ p. entry_by m p e.actor) rest ∙ ap (entry_by m other) maker' in
    let entry : e ≡ f = some_is e f (sym (determined m e one h) ∙ (moved ∙ determined m f other k)) in
    ap (λ x. x ∷ one) entry ∙ ap (λ p. f ∷ p) rest
