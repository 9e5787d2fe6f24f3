-- The index of answers, from the last one on.
use Rattle.std.proofs.Common.{◌≡◌, ◌<◌, ◌+◌, ◌∙◌, ℕ, suc, ◌==◌, Bool, true, false, ◌&&◌, cond, if◌then◌else◌, List, ◌∷◌, length, drop, get_or, slice_get, Option, Some, None, refl, sym, ap, arith, drop-cons}
use Rattle.std.specs.Prelude.{option_and_then}
use Rattle.std.proofs.lemmas.Option.{slice_get-get_or}
use Rattle.sleep_model.specs.declared.machine.Answer.{Answer}
use Rattle.sleep_model.specs.declared.machine.What.{What}
use Rattle.sleep_model.specs.declared.machine.What.TheVariants as what
use Rattle.sleep_model.specs.declared.machine.PlatDo.{PlatDo}
use Rattle.sleep_model.specs.declared.machine.PlatDo.TheVariants as down
use Rattle.phase_table.specs.Phases.{is_phase}
use Rattle.sleep_model.specs.Answers.{answer_for, is_thing, is_for, is_platform_step}
use Rattle.machine_plans.specs.declared.key.Thing.TheVariants as thing
use Rattle.machine_plans.specs.declared.key.Key.{Key}
use Rattle.machine_plans.specs.contracts.key.KeyPartialEq.TheImpl.{eq-value}
use Rattle.machine_plans.specs.Keys.{key_for, step_rank}

-- the derived test of two attempts
abbrev attempt_eq : Option ℕ → Option ℕ → Bool
attempt_eq a b = eq-value.it (record { thing = thing.Syscore 0; attempt = a }) (record { thing = thing.Syscore 0; attempt = b })

same_step : (x y : PlatDo) → (step_rank x == step_rank y) ≡ is_platform_step x y
same_step down.Begin down.Begin = refl
same_step down.Prepare down.Prepare = refl
same_step down.PrepareLate down.PrepareLate = refl
same_step _ _ = refl

same_attempt : (a b : Option ℕ) (same : Bool) → (same && attempt_eq a b) ≡ (same && is_for a b)
same_attempt None None same = refl
same_attempt (Some n) (Some k) same = refl
same_attempt None (Some k) same = refl
same_attempt (Some n) None same = refl

-- keys are the same if the things and the attempts are
pub key_eq : (w v : What) (a b : Option ℕ) → eq-value.it (key_for w a) (key_for v b) ≡ (is_thing w v && is_for a b)
key_eq (what.Device d p) (what.Device e q) a b = same_attempt a b (d == e && is_phase p q)
key_eq (what.Syscore x) (what.Syscore y) a b = same_attempt a b (x == y)
key_eq (what.Notifier x) (what.Notifier y) a b = same_attempt a b (x == y)
key_eq (what.Platform x) (what.Platform y) a b = same_attempt a b (step_rank x == step_rank y) ∙ ap (λ c. c && is_for a b) (same_step x y)
key_eq _ _ a b = refl

-- each key is found among the answers from number i on
abbrev pub IsIndexedFrom : List Answer → ℕ → (Key → Option ℕ) → Type 0
IsIndexedFrom answers i at = (thing : What) (attempt : Option ℕ) →
    option_and_then (slice_get answers) (at (key_for thing attempt)) ≡ answer_for thing attempt (drop i answers)

-- one answer more at the head of the list, whose key is put over what was found
module _ (answers : List Answer) (i : ℕ) (a : Answer) (within : i < length answers) (is : a ≡ get_or answers i a) where
  found : (b : Bool) (o : Option ℕ) (rest : Option Answer) → option_and_then (slice_get answers) o ≡ rest →
      option_and_then (slice_get answers) (cond b (Some i) o) ≡ (if b then Some a else rest)
  found true o rest e = slice_get-get_or answers i a within ∙ ap Some (sym is)
  found false o rest e = e

  behind : drop i answers ≡ a ∷ drop (i + 1) answers
  behind = let next : suc i ≡ i + 1 = omega arith in drop-cons answers i a within ∙ ap (λ x. x ∷ drop (suc i) answers) (sym is) ∙ ap (λ k. a ∷ drop k answers) next

  pub indexed_more : (key : Key) (at more : Key → Option ℕ) → key ≡ key_for a.what a.attempt → IsIndexedFrom answers (i + 1) at →
      ((q : Key) → more q ≡ cond (eq-value.it key q) (Some i) (at q)) → IsIndexedFrom answers i more
  indexed_more key at more made h update thing attempt =
      let b = is_thing a.what thing && is_for a.attempt attempt in
      let here : more (key_for thing attempt) ≡ cond b (Some i) (at (key_for thing attempt)) =
      update (key_for thing attempt)
      ∙ ap (λ k. cond (eq-value.it k (key_for thing attempt)) (Some i) (at (key_for thing attempt))) made
      ∙ ap (λ c. cond c (Some i) (at (key_for thing attempt))) (key_eq a.what thing a.attempt attempt) in
      ap (option_and_then (slice_get answers)) here
      ∙ found b (at (key_for thing attempt)) (answer_for thing attempt (drop (i + 1) answers)) (h thing attempt)
      ∙ sym (ap (answer_for thing attempt) behind)
