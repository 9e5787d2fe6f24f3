-- The operations of scripts name what is there.
use Rattle.std.proofs.Common.{◌≡◌, ◌++◌, ℕ, zero, suc, Bool, true, false, List, [], ◌∷◌, filter, flat_map, replicate, Some, cond, subst, slice_get}
use Rattle.sleep_model.specs.declared.machine.Machine.{Machine}
use Rattle.sleep_model.specs.declared.machine.Op.{Op}
use Rattle.sleep_model.specs.declared.machine.Script.{Script}
use Rattle.sleep_model.specs.declared.machine.Step.{Step}
use Rattle.sleep_model.specs.Accepted.{IsOp, AreSteps, AreScripts}
use Rattle.sleep_model.specs.Scripts.{times_over, operations, makes_entry, entry_steps}

-- ---- what holds of each item

abbrev pub Each : {A : Type 0} → (A → Type 0) → List A → Type 0
Each P [] = Unit {0}
Each P (x ∷ xs) = P x × Each P xs

pub each_append : {A : Type 0} (P : A → Type 0) (xs ys : List A) → Each P xs → Each P ys → Each P (xs ++ ys)
each_append P [] ys h g = g
each_append P (x ∷ xs) ys h g = (h.0, each_append P xs ys h.1 g)

pub each_copy : {A : Type 0} (P : A → Type 0) (n : ℕ) (x : A) → P x → Each P (replicate n x)
each_copy P zero x h = tt
each_copy P (suc n) x h = (h, each_copy P n x h)

pub each_times : {A : Type 0} (P : A → Type 0) (n : ℕ) (xs : List A) → Each P xs → Each P (times_over n xs)
each_times P zero xs h = tt
each_times P (suc n) xs h = each_append P (times_over n xs) xs (each_times P n xs h) h

pub each_flat : {A B : Type 0} (P : A → Type 0) (Q : B → Type 0) (f : A → List B) → ((x : A) → P x → Each Q (f x)) → (xs : List A) → Each P xs → Each Q (flat_map f xs)
each_flat P Q f g [] h = tt
each_flat P Q f g (x ∷ xs) h = each_append Q (f x) (flat_map f xs) (g x h.0) (each_flat P Q f g xs h.1)

pub each_get : {A : Type 0} (P : A → Type 0) (xs : List A) (i : ℕ) (x : A) → Each P xs → slice_get xs i ≡ Some x → P x
each_get P [] i x h e = absurd (cc)
each_get P (y ∷ ys) zero x h e = subst P (let same : y ≡ x = cc in same) h.0
each_get P (y ∷ ys) (suc i) x h e = each_get P ys i x h.1 e

-- ---- operations

each_step : (m : Machine) (steps : List Step) → AreSteps m steps → Each (λ s. IsOp m s.op) steps
each_step m [] h = tt
each_step m (s ∷ ss) h = (h.2, each_step m ss h.3)

pub each_operation : (m : Machine) (s : Script) → AreSteps m s.steps → Each (IsOp m) (operations s)
each_operation m s h =
    each_times (IsOp m) s.repeat (flat_map (λ step. replicate step.times step.op) s.steps)
    (each_flat (λ step. IsOp m step.op) (IsOp m) (λ step. replicate step.times step.op) (λ step o. each_copy (IsOp m) step.times step.op o) s.steps (each_step m s.steps h))

pub script_steps : (m : Machine) (scripts : List Script) (i : ℕ) (s : Script) → AreScripts m scripts → slice_get scripts i ≡ Some s → AreSteps m s.steps
script_steps m [] i s h e = absurd (cc)
script_steps m (t ∷ rest) zero s h e = subst (λ (x : Script). AreSteps m x.steps) (let same : t ≡ s = cc in same) h.2
script_steps m (t ∷ rest) (suc i) s h e = script_steps m rest i s h.3 e

each_filter : {A : Type 0} (P : A → Type 0) (p : A → Bool) (xs : List A) → Each P xs → Each P (filter p xs)
each_filter P p [] h = tt
each_filter P p (x ∷ xs) h = by_test (p x) (each_filter P p xs h.1)
  where
    by_test : (b : Bool) → Each P (filter p xs) → Each P (cond b (x ∷ filter p xs) (filter p xs))
    by_test true rest = (h.0, rest)
    by_test false rest = rest

-- what a script makes entries of names what is there
pub entry_operation : (m : Machine) → AreScripts m m.actors → (i n : ℕ) (s : Script) (op : Op) → slice_get m.actors i ≡ Some s → slice_get (entry_steps s) n ≡ Some op → IsOp m op
entry_operation m h i n s op e f =
    each_get (IsOp m) (entry_steps s) n op (each_filter (IsOp m) makes_entry (operations s) (each_operation m s (script_steps m m.actors i s h e))) f
