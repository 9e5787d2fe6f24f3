-- No script comes further than its operations and its exit.
use Rattle.std.proofs.Common.{◌≡◌, ◌≤◌, ◌<◌, ◌+◌, ◌*◌, ◌∙◌, ℕ, zero, suc, Bool, true, false, nat_lt, List, [], ◌∷◌, length, filter, flat_map, replicate, Option, Some, slice_get, cond, refl, sym, ap, subst, arith}
use Rattle.std.proofs.lemmas.Bool.{true≢false}
use Rattle.std.proofs.lemmas.Bool.Decides.{nat_tests}
use Rattle.std.proofs.lemmas.List.{length-append}
use Rattle.std.proofs.lemmas.Option.{slice_get_within}
use Rattle.sleep_model.specs.declared.entry.Actor.{Actor}
use Rattle.sleep_model.specs.declared.entry.Actor.TheVariants as actor
use Rattle.sleep_model.specs.declared.entry.Entry.{Entry}
use Rattle.sleep_model.specs.declared.entry.Kind.{Kind}
use Rattle.sleep_model.specs.declared.machine.Machine.{Machine}
use Rattle.sleep_model.specs.declared.machine.Op.{Op}
use Rattle.sleep_model.specs.declared.machine.Script.{Script}
use Rattle.sleep_model.specs.declared.progress.ScriptPosition.{ScriptPosition}
use Rattle.sleep_model.specs.declared.word.EventNow.{EventNow}
use Rattle.sleep_model.specs.Calls.{ends_step}
use Rattle.sleep_model.specs.Legal.{JournalPart}
use Rattle.sleep_model.specs.Path.{is_same}
use Rattle.sleep_model.specs.Places.{is_state, one_if}
use Rattle.sleep_model.specs.Scripts.{entry_steps, makes_entry, operations}
use Rattle.sleep_model.specs.Positions.{first_position, position_at, position_effect, positions}
use Rattle.sleep_laws.proofs.Made.{StepMade, TaskMade, EntryMade, ByMaker, ByTask}
use Rattle.sleep_laws.proofs.MakingOwn.{entry_made}
use Rattle.room_laws.proofs.Limiting.{script_tries}
use Rattle.room_laws.proofs.Summing.{total}
use Rattle.room_laws.proofs.Trying.{done_of, done_other, done_out, done_own, passes, same_actor, steps_if, steps_in}
use Rattle.room_laws.proofs.Sitting.{positions_len}
use Rattle.end_laws.specs.Bounds.{most_steps}
use Rattle.end_laws.proofs.Counting.{far, stepped}

-- ---- how many steps are done

passes_within : (test : Op → Bool) (xs : List Op) (n : ℕ) → passes test (slice_get xs n) ≡ true → n < length xs
passes_within test [] n h = absurd (true≢false (sym h))
passes_within test (x ∷ xs) zero h = omega arith
passes_within test (x ∷ xs) (suc n) h = omega (arith, passes_within test xs n h)

step_there : (m : Machine) (past : List Entry) (now : EventNow) (position : ScriptPosition) (asked : Bool) (o : Option Op) (k : Kind) → StepMade m past now position asked o k → ends_step (position_effect k) ≡ true → (xs : List Op) (n : ℕ) → slice_get xs n ≡ o → n < length xs
step_there m past now position asked _ _ StepMade.Exits t xs n e = absurd (true≢false (sym t))
step_there m past now position asked (Some x) _ _ t xs n e = slice_get_within xs n x e

-- a step that ends is there
step_within : (m : Machine) (past : List Entry) (now : EventNow) (i : ℕ) (k : Kind) → JournalPart m past → EntryMade m past now (actor.Script i) k → ends_step (position_effect k) ≡ true → done_of m past i < length (steps_in m i)
step_within m past now i k h (ByMaker _ here there _ a at c x) t = passes_within is_state (steps_in m i) (done_of m past i) ((script_tries m i past h).at_state a)
step_within m past now _ _ h (ByTask i _ a (TaskMade.Freezes s go asked)) t = absurd (true≢false (sym t))
step_within m past now _ k h (ByTask i _ a (TaskMade.Steps s _ o go at x)) t =
    step_there m past now _ _ o k x t (steps_in m i) (done_of m past i) (ap (λ z. slice_get (steps_if z) (done_of m past i)) go.script ∙ at)

fresh : (n i : ℕ) → (position_at (replicate n first_position) i).done ≡ 0
fresh zero i = refl
fresh (suc n) zero = refl
fresh (suc n) (suc i) = fresh n i

pub done_within : (m : Machine) (past : List Entry) → JournalPart m past → (i : ℕ) → done_of m past i ≤ length (steps_in m i)
done_within m [] h i = omega (arith, fresh (length m.actors) i)
done_within m (e ∷ past) h i = by_same (is_same e.actor (actor.Script i)) refl (done_within m past h.1 i)
  where
    by_end : (b : Bool) → ends_step (position_effect e.kind) ≡ b → e.actor ≡ actor.Script i → done_of m past i ≤ length (steps_in m i) → cond b (done_of m past i + 1) (done_of m past i) ≤ length (steps_in m i)
    by_end true x a before = let less = step_within m past e.now i e.kind h.1 (subst (λ (w : Actor). EntryMade m past e.now w e.kind) a (entry_made m past e h)) x in omega (arith, less)
    by_end false x a before = before

    by_range : (b : Bool) → nat_lt i (length m.actors) ≡ b → is_same e.actor (actor.Script i) ≡ true → done_of m past i ≤ length (steps_in m i) → done_of m (e ∷ past) i ≤ length (steps_in m i)
    by_range true r s before =
        let within : i < length m.actors = grind (arith, nat_tests) in
        omega (arith, done_own m past e i s within, by_end (ends_step (position_effect e.kind)) refl (same_actor e.actor (actor.Script i) s) before)
    by_range false r s before = let out : length m.actors ≤ i = grind (arith, nat_tests) in omega (arith, done_out m past e i s out, before)

    by_same : (b : Bool) → is_same e.actor (actor.Script i) ≡ b → done_of m past i ≤ length (steps_in m i) → done_of m (e ∷ past) i ≤ length (steps_in m i)
    by_same true s before = by_range (nat_lt i (length m.actors)) refl s before
    by_same false s before = omega (arith, done_other m past e i s, before)

-- ---- all scripts

one_at_most : (b : Bool) → one_if b ≤ 1
one_at_most true = omega arith
one_at_most false = omega arith

preserved_less : (p : Op → Bool) (xs : List Op) → length (filter p xs) ≤ length xs
preserved_less p [] = omega arith
preserved_less p (x ∷ xs) = by_test (p x) (preserved_less p xs)
  where
    by_test : (b : Bool) → length (filter p xs) ≤ length xs → length (cond b (x ∷ filter p xs) (filter p xs)) ≤ suc (length xs)
    by_test true l = omega (arith, l)
    by_test false l = omega (arith, l)

-- scripts in these positions come no further together than all their operations
all_far : (scripts : List Script) (places : List ScriptPosition) → length places ≡ length scripts → ((i : ℕ) → (position_at places i).done ≤ length (steps_if (slice_get scripts i))) → total far places ≤ 2 * length (flat_map operations scripts) + 2 * length scripts
all_far [] [] l h = omega arith
all_far [] (p ∷ places) l h = absurd (omega arith)
all_far (s ∷ scripts) [] l h = absurd (omega arith)
all_far (s ∷ scripts) (p ∷ places) l h =
    let same : length places ≡ length scripts = omega arith in
    let first : p.done ≤ length (entry_steps s) = h 0 in
    omega (arith, all_far scripts places same (λ i. h (suc i)), first, preserved_less makes_entry (operations s), one_at_most p.waits, one_at_most p.exited, length-append (operations s) (flat_map operations scripts))

pub steps_bounded : (m : Machine) (past : List Entry) → JournalPart m past → stepped m past ≤ most_steps m
steps_bounded m past h = all_far m.actors (positions (length m.actors) past) (positions_len (length m.actors) past) (done_within m past h)
