-- A source begins an event only if none of its own is in progress, and finishes it, or makes a hard step, only if one is.
use Rattle.std.proofs.Common.{◌≡◌, ◌≢◌, ◌≤◌, ◌<◌, ◌+◌, ◌++◌, ◌∙◌, ℕ, zero, suc, Bool, true, false, ◌==◌, List, [], ◌∷◌, Option, Some, None, refl, sym, ap, subst, cond, is_some, arith}
use Rattle.std.proofs.lemmas.Bool.{eqb-true, true≢false}
use Rattle.std.proofs.lemmas.Bool.Decides.{nat_tests}
use Rattle.sleep_model.specs.declared.entry.Entry.{Entry}
use Rattle.sleep_model.specs.declared.machine.SourceCall.{SourceCall}
use Rattle.sleep_model.specs.declared.machine.SourceCall.TheVariants as call
use Rattle.sleep_model.specs.declared.word.WordKind.{WordKind}
use Rattle.sleep_model.specs.declared.word.WordKind.TheVariants as step
use Rattle.sleep_model.specs.Legal.{OwnStep}
use Rattle.sleep_model.specs.EntryClasses.{EntryClass, OfJournal, Notes, Moves, OfTime, class_of}
use Rattle.sleep_model.specs.Sources.{history, is_of, since, since_after, owed, owed_after, makes, IsNext}

-- ---- the steps that a source owes

-- these steps may follow: a start if no event of the source is in progress, a finish and a hard step if one is
abbrev pub Runs : Bool → List WordKind → Type 0
Runs active [] = Unit {0}
Runs active (step.Start ∷ steps) = (active ≡ false) × Runs true steps
Runs active (step.Finish ∷ steps) = (active ≡ true) × Runs false steps
Runs active (step.Hard ∷ steps) = (active ≡ true) × Runs true steps

runs_event : (hard quick : Bool) → Runs true (cond hard (step.Hard ∷ []) [] ++ cond quick (step.Finish ∷ []) [])
runs_event true true = (refl, (refl, tt))
runs_event true false = (refl, tt)
runs_event false true = (refl, tt)
runs_event false false = tt

runs_made : (made : SourceCall) (o : Option ℕ) → Runs (is_some o) (makes made o)
runs_made call.Awake None = (refl, tt)
runs_made call.Awake (Some t) = tt
runs_made call.Relax None = tt
runs_made call.Relax (Some t) = (refl, tt)
runs_made (call.Event ms hard) None = (refl, runs_event hard (ms == 0))
runs_made (call.Event ms hard) (Some t) = runs_event hard (ms == 0)
runs_made call.Expire None = tt
runs_made call.Expire (Some t) = (refl, tt)

-- a step of the word is the next that is owed
abbrev pub NextIf : EntryClass → List WordKind → Type 0
NextIf (Moves s step) steps = IsNext step steps
NextIf _ steps = Unit {0}

runs_moved : (s time : ℕ) (step : WordKind) (o : Option ℕ) (steps : List WordKind) → Runs (is_some o) (step ∷ steps) → Runs (is_some (since_after (Moves s step) time o)) steps
runs_moved s time step.Start o steps h = h.1
runs_moved s time step.Finish o steps h = h.1
runs_moved s time step.Hard o steps h = subst (λ (b : Bool). Runs b steps) (sym h.0) h.1

pub runs_after : (part : EntryClass) (time : ℕ) (o : Option ℕ) (steps : List WordKind) → Runs (is_some o) steps → NextIf part steps → Runs (is_some (since_after part time o)) (owed_after part o steps)
runs_after OfJournal time o steps h n = h
runs_after (Notes s made) time o steps h n = runs_made made o
runs_after (Moves s step) time o [] h n = absurd n
runs_after (Moves s step) time o (next ∷ rest) h n = runs_moved s time step o rest (subst (λ (x : WordKind). Runs (is_some o) (x ∷ rest)) n h)
runs_after OfTime time o steps h n = h

-- of each source
abbrev pub AllRun : List Entry → Type 0
AllRun past = (s : ℕ) → Runs (is_some (since (history s past))) (owed (history s past))

pub next_own : (part : EntryClass) (s : ℕ) (past : List Entry) (e : Entry) → OwnStep past e part → is_of s part ≡ true → NextIf part (owed (history s past))
next_own OfJournal s past e own is = tt
next_own (Notes t made) s past e own is = tt
next_own (Moves t step) s past e own is = subst (λ (x : ℕ). IsNext step (owed (history x past))) (eqb-true t s is) own.0
next_own OfTime s past e own is = tt

pub runs_step : (e : Entry) (past : List Entry) → OwnStep past e (class_of e.kind) → AllRun past → AllRun (e ∷ past)
runs_step e past own h s = by_own (is_of s (class_of e.kind)) refl
  where
    by_own : (b : Bool) → is_of s (class_of e.kind) ≡ b → Runs (is_some (since (cond b (e ∷ history s past) (history s past)))) (owed (cond b (e ∷ history s past) (history s past)))
    by_own true is = runs_after (class_of e.kind) e.time (since (history s past)) (owed (history s past)) (h s) (next_own (class_of e.kind) s past e own is)
    by_own false is = h s

-- ---- how many events are in progress

-- one for an event in progress
abbrev pub one_of : Option ℕ → ℕ
one_of None = 0
one_of (Some at) = 1

-- how many of the first n sources have an event in progress
abbrev pub active : ℕ → (ℕ → Option ℕ) → ℕ
active zero of = 0
active (suc n) of = one_of (of n) + active n of

pub active_same : (n : ℕ) (f g : ℕ → Option ℕ) → ((s : ℕ) → g s ≡ f s) → active n g ≡ active n f
active_same zero f g same = refl
active_same (suc n) f g same = let e : one_of (g n) ≡ one_of (f n) = ap one_of (same n) in omega (arith, e, active_same n f g same)

pub same_number : (x : ℕ) → (x == x) ≡ true
same_number x = grind (arith, nat_tests)

pub different : (x y : ℕ) → (x == y) ≡ false → x ≢ y
different x y e same = true≢false (sym (same_number y) ∙ (ap (λ z. z == y) (sym same) ∙ e))

active_mono : (f : ℕ → Option ℕ) (k n : ℕ) → n ≤ k → active n f ≤ active k f
active_mono f zero zero l = omega arith
active_mono f zero (suc n) l = absurd (omega arith)
active_mono f (suc k) n l = by_test (λ h. active_mono f k n h) (n == suc k) refl
  where
    by_test : (n ≤ k → active n f ≤ active k f) → (b : Bool) → (n == suc k) ≡ b → active n f ≤ active (suc k) f
    by_test rest true e = subst (λ (x : ℕ). active n f ≤ active x f) (eqb-true n (suc k) e) (omega arith)
    by_test rest false e = let other : n ≢ suc k = different n (suc k) e in let below : n ≤ k = omega arith in omega (arith, rest below)

one_most : (o : Option ℕ) → one_of o ≤ 1
one_most None = omega arith
one_most (Some t) = omega arith

-- if the others stay as they were, at most one source more is active
pub active_more : (n t : ℕ) (f g : ℕ → Option ℕ) → ((s : ℕ) → s ≢ t → g s ≡ f s) → active n g ≤ active n f + 1
active_more n t f g same = by_place n
  where
    others : (k : ℕ) → k ≤ t → active k g ≡ active k f
    others zero l = refl
    others (suc k) l = let e : one_of (g k) ≡ one_of (f k) = ap one_of (same k (λ x. omega arith)) in omega (arith, e, others k (omega arith))

    by_place : (k : ℕ) → active k g ≤ active k f + 1
    by_place zero = omega arith
    by_place (suc k) = by_test (by_place k) (k == t) refl
      where
        by_test : active k g ≤ active k f + 1 → (b : Bool) → (k == t) ≡ b → one_of (g k) + active k g ≤ one_of (f k) + active k f + 1
        by_test rest true e = let here : k ≡ t = eqb-true k t e in omega (arith, others k (omega arith), one_most (g k))
        by_test rest false e = let other : g k ≡ f k = same k (different k t e) in let o : one_of (g k) ≡ one_of (f k) = ap one_of other in omega (arith, o, rest)

one_some : (o : Option ℕ) → is_some o ≡ true → one_of o ≡ 1
one_some None e = absurd (true≢false (sym e))
one_some (Some t) e = refl

one_none : (o : Option ℕ) → is_some o ≡ false → one_of o ≡ 0
one_none None e = refl
one_none (Some t) e = absurd (true≢false e)

-- an active source is among those that are in progress
pub active_some : (t : ℕ) (f : ℕ → Option ℕ) → is_some (f t) ≡ true → 0 < active (suc t) f
active_some t f e = omega (arith, one_some (f t) e)

-- if the others stay as they were and one source is active no longer, they are fewer by one
pub active_less : (t : ℕ) (f g : ℕ → Option ℕ) (most : ℕ) → is_some (f t) ≡ true → is_some (g t) ≡ false → ((s : ℕ) → s ≢ t → g s ≡ f s) → ((n : ℕ) → active n f ≤ most) → (n : ℕ) → active n g + 1 ≤ most
active_less t f g most was is same h n = omega (arith, below_both, beyond (n + suc t) (omega arith), h (n + suc t))
  where
    others : (k : ℕ) → k ≤ t → active k g ≡ active k f
    others zero l = refl
    others (suc k) l = let e : one_of (g k) ≡ one_of (f k) = ap one_of (same k (λ x. omega arith)) in omega (arith, e, others k (omega arith))

    beyond : (k : ℕ) → t < k → active k g + 1 ≡ active k f
    beyond zero l = absurd (omega arith)
    beyond (suc k) l = by_test (λ h. beyond k h) (k == t) refl
      where
        by_test : (t < k → active k g + 1 ≡ active k f) → (b : Bool) → (k == t) ≡ b → one_of (g k) + active k g + 1 ≡ one_of (f k) + active k f
        by_test rest true e =
            let here : k ≡ t = eqb-true k t e in
            let a : one_of (g k) ≡ one_of (g t) = ap (λ x. one_of (g x)) here in
            let b : one_of (f k) ≡ one_of (f t) = ap (λ x. one_of (f x)) here in
            omega (arith, a, b, one_none (g t) is, one_some (f t) was, others k (omega arith))
        by_test rest false e =
            let apart : k ≢ t = different k t e in
            let o : one_of (g k) ≡ one_of (f k) = ap one_of (same k apart) in omega (arith, o, rest (omega arith))

    below_both : active n g ≤ active (n + suc t) g
    below_both = active_mono g (n + suc t) n (omega arith)
