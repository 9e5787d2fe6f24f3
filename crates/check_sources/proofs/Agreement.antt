-- The account of sources is what the definitions read.
use Rattle.std.proofs.Common.{◌≡◌, ◌<◌, ◌++◌, is_some, ℕ, zero, suc, Bool, true, false, List, [], ◌∷◌, length, replicate, Option, Some, None, refl, ap, sym, ◌∙◌, arith, cond, ◌==◌, slice_set, slice_index_or, subst}
use Rattle.std.proofs.lemmas.List.{length-set, length-replicate}
use Rattle.sleep_model.specs.declared.entry.Entry.{Entry}
use Rattle.sleep_model.specs.declared.machine.SourceCall.TheVariants as call
use Rattle.sleep_model.specs.declared.machine.SourceCall.{SourceCall}
use Rattle.sleep_model.specs.declared.word.WordKind.TheVariants as step
use Rattle.sleep_model.specs.EntryClasses.{EntryClass, OfJournal, OfTime, Notes, Moves, class_of}
use Rattle.sleep_model.specs.Sources.{history, is_of, owed_after, since, makes, steps_after_first}
use Rattle.check_sources.specs.declared.owed.Owed.{Owed}
use Rattle.check_sources.specs.declared.source.Source.{Source}
use Rattle.check_sources.specs.Owing.{FlagsAreSteps, steps_of, owes, owes_after, owed_by, after_first}
use Rattle.check_sources.specs.SourceStates.{SourcesAgree, source_of, source_after, source_in, moved_by, sources}

-- ---- the steps that are owed

called : (c : SourceCall) (o : Option ℕ) → steps_of (owed_by c (is_some o)) ≡ makes c o
called call.Awake None = refl
called call.Awake (Some t) = refl
called call.Relax None = refl
called call.Relax (Some t) = refl
called (call.Event ms true) None = by_length (ms == 0)
  where
    by_length : (b : Bool) → steps_of (record { start = true; hard = true; finish = b }) ≡ (step.Start ∷ []) ++ (step.Hard ∷ []) ++ cond b (step.Finish ∷ []) []
    by_length true = refl
    by_length false = refl
called (call.Event ms false) None = by_length (ms == 0)
  where
    by_length : (b : Bool) → steps_of (record { start = true; hard = false; finish = b }) ≡ (step.Start ∷ []) ++ [] ++ cond b (step.Finish ∷ []) []
    by_length true = refl
    by_length false = refl
called (call.Event ms true) (Some t) = by_length (ms == 0)
  where
    by_length : (b : Bool) → steps_of (record { start = false; hard = true; finish = b }) ≡ [] ++ (step.Hard ∷ []) ++ cond b (step.Finish ∷ []) []
    by_length true = refl
    by_length false = refl
called (call.Event ms false) (Some t) = by_length (ms == 0)
  where
    by_length : (b : Bool) → steps_of (record { start = false; hard = false; finish = b }) ≡ [] ++ [] ++ cond b (step.Finish ∷ []) []
    by_length true = refl
    by_length false = refl
called call.Expire None = refl
called call.Expire (Some t) = refl

stepped : (start hard finish : Bool) → steps_of (after_first (record { start = start; hard = hard; finish = finish })) ≡ steps_after_first (steps_of (record { start = start; hard = hard; finish = finish }))
stepped true true true = refl
stepped true true false = refl
stepped true false true = refl
stepped true false false = refl
stepped false true true = refl
stepped false true false = refl
stepped false false true = refl
stepped false false false = refl

by_part : (p : EntryClass) (o : Option ℕ) (f : Owed) → steps_of (owes_after p (is_some o) f) ≡ owed_after p o (steps_of f)
by_part (Notes s made) o f = called made o
by_part (Moves s moved) o f = stepped f.start f.hard f.finish
by_part OfJournal o f = refl
by_part OfTime o f = refl

pub flags : FlagsAreSteps
flags [] = refl
flags (e ∷ own) = by_part (class_of e.kind) (since own) (owes own) ∙ ap (λ steps. owed_after (class_of e.kind) (since own) steps) (flags own)

-- ---- each source by its own history

moved_len : (e : Entry) (o : Option ℕ) (xs : List Source) → length (moved_by e o xs) ≡ length xs
moved_len e None xs = refl
moved_len e (Some s) xs = length-set xs s _

pub sources_len : (n : ℕ) (past : List Entry) → length (sources n past) ≡ n
sources_len n [] = length-replicate n (source_of [])
sources_len n (e ∷ past) = moved_len e (source_in (class_of e.kind)) (sources n past) ∙ sources_len n past

set_here : (xs : List Source) (s : ℕ) (x d : Source) → s < length xs → slice_index_or (slice_set xs s x) s d ≡ x
set_here [] s x d h = absurd (omega (arith, h))
set_here (y ∷ ys) zero x d h = refl
set_here (y ∷ ys) (suc s) x d h = set_here ys s x d (omega (arith, h))

set_there : (xs : List Source) (t s : ℕ) (x d : Source) → (t ≡ s → ⊥) → slice_index_or (slice_set xs t x) s d ≡ slice_index_or xs s d
set_there [] t s x d h = refl
set_there (y ∷ ys) zero zero x d h = absurd (h refl)
set_there (y ∷ ys) zero (suc s) x d h = refl
set_there (y ∷ ys) (suc t) zero x d h = refl
set_there (y ∷ ys) (suc t) (suc s) x d h = set_there ys t s x d (λ e. h (ap suc e))

same_number : (t s : ℕ) → (t == s) ≡ true → t ≡ s
same_number t s h = grind (arith)

other_number : (t s : ℕ) → (t == s) ≡ false → t ≡ s → ⊥
other_number t s h e = grind (arith)

fresh_at : (n s : ℕ) → slice_index_or (replicate n (source_of [])) s (source_of []) ≡ source_of []
fresh_at zero s = refl
fresh_at (suc n) zero = refl
fresh_at (suc n) (suc s) = fresh_at n s

at_own : (e : Entry) (t s : ℕ) (b : Bool) → (t == s) ≡ b → (xs : List Source) (past : List Entry) → s < length xs
    → slice_index_or xs s (source_of []) ≡ source_of (history s past)
    → slice_index_or (slice_set xs t (source_after e (slice_index_or xs t (source_of [])))) s (source_of []) ≡ source_of (cond b (e ∷ history s past) (history s past))
at_own e t s true same xs past fits is =
    let u : t ≡ s = same_number t s same in
    subst (λ k. slice_index_or (slice_set xs k (source_after e (slice_index_or xs k (source_of [])))) s (source_of []) ≡ source_of (e ∷ history s past)) (sym u)
    (set_here xs s _ _ fits ∙ ap (λ x. source_after e x) is)
at_own e t s false differs xs past fits is = set_there xs t s _ _ (other_number t s differs) ∙ is

by_source : (e : Entry) (p : EntryClass) (s : ℕ) (xs : List Source) (past : List Entry) → s < length xs
    → slice_index_or xs s (source_of []) ≡ source_of (history s past)
    → slice_index_or (moved_by e (source_in p) xs) s (source_of []) ≡ source_of (cond (is_of s p) (e ∷ history s past) (history s past))
by_source e (Notes t made) s xs past fits is = at_own e t s (t == s) refl xs past fits is
by_source e (Moves t step) s xs past fits is = at_own e t s (t == s) refl xs past fits is
by_source e OfJournal s xs past fits is = is
by_source e OfTime s xs past fits is = is

pub agree : SourcesAgree
agree n [] s fits = fresh_at n s
agree n (e ∷ past) s fits =
    let l : length (sources n past) ≡ n = sources_len n past in
    by_source e (class_of e.kind) s (sources n past) past (omega (arith, l, fits)) (agree n past s fits)
