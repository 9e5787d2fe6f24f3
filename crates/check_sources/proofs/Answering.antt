-- The first index of a key is that of the first answer of its thing and attempt.
use Rattle.std.proofs.Common.{◌≡◌, ◌∙◌, ℕ, zero, suc, ◌==◌, Bool, true, false, ◌&&◌, cond, if◌then◌else◌, List, [], ◌∷◌, length, map, slice_get, Option, Some, None, refl, sym, ap, arith, position}
use Rattle.std.specs.Prelude.{option_and_then, option_map}
use Rattle.std.proofs.lemmas.Bool.Decides.{nat_tests}
use Rattle.key_index.proofs.Placing.{position_cons}
use Rattle.sleep_model.specs.declared.machine.Answer.{Answer}
use Rattle.sleep_model.specs.declared.machine.PlatDo.{PlatDo}
use Rattle.sleep_model.specs.declared.machine.PlatDo.TheVariants as down
use Rattle.sleep_model.specs.declared.machine.What.{What}
use Rattle.sleep_model.specs.declared.machine.What.TheVariants as what
use Rattle.sleep_model.specs.Answers.{answer_for, is_for, is_platform_step, is_thing}
use Rattle.check_sources.specs.declared.answers.AnsweringThing.TheVariants as thing
use Rattle.check_sources.specs.contracts.answers.AnswerKeyPartialEq.TheImpl.{eq-value}
use Rattle.check_sources.specs.AnswerKeys.{answer_key, key_for, phase_rank, step_rank}

-- the derived test of two attempts
abbrev attempt_eq : Option ℕ → Option ℕ → Bool
attempt_eq a b = eq-value.it (record { thing = thing.Syscore 0; attempt = a }) (record { thing = thing.Syscore 0; attempt = b })

turned : (n k : ℕ) → (n == k) ≡ (k == n)
turned n k = by_test (n == k) (k == n) refl refl
  where
    by_test : (a b : Bool) → (n == k) ≡ a → (k == n) ≡ b → a ≡ b
    by_test true true e f = refl
    by_test false false e f = refl
    by_test true false e f = grind (arith, nat_tests)
    by_test false true e f = grind (arith, nat_tests)

same_step : (x y : PlatDo) → (step_rank x == step_rank y) ≡ is_platform_step y x
same_step down.Begin down.Begin = refl
same_step down.Prepare down.Prepare = refl
same_step down.PrepareLate down.PrepareLate = refl
same_step _ _ = refl

same_attempt : (a b : Option ℕ) (same : Bool) → (same && attempt_eq a b) ≡ (same && is_for b a)
same_attempt None None same = refl
same_attempt (Some n) (Some k) same = ap (λ c. same && c) (turned n k)
same_attempt None (Some k) same = refl
same_attempt (Some n) None same = refl

-- a key is that of an answer if their things and attempts are equal
key_eq : (w v : What) (a b : Option ℕ) → eq-value.it (key_for w a) (key_for v b) ≡ (is_thing v w && is_for b a)
key_eq (what.Device d p) (what.Device e q) a b =
    same_attempt a b (d == e && (phase_rank p == phase_rank q))
    ∙ ap (λ c. (c && (phase_rank p == phase_rank q)) && is_for b a) (turned d e)
    ∙ ap (λ c. (e == d && c) && is_for b a) (turned (phase_rank p) (phase_rank q))
key_eq (what.Syscore x) (what.Syscore y) a b = same_attempt a b (x == y) ∙ ap (λ c. c && is_for b a) (turned x y)
key_eq (what.Notifier x) (what.Notifier y) a b = same_attempt a b (x == y) ∙ ap (λ c. c && is_for b a) (turned x y)
key_eq (what.Platform x) (what.Platform y) a b = same_attempt a b (step_rank x == step_rank y) ∙ ap (λ c. c && is_for b a) (same_step x y)
key_eq _ _ a b = refl

-- the answer at the first index of a key is the first of its thing and attempt
after : (a : Answer) (rest : List Answer) (o : Option ℕ) → option_and_then (slice_get (a ∷ rest)) (option_map suc o) ≡ option_and_then (slice_get rest) o
after a rest None = refl
after a rest (Some j) = refl

by_test : (a : Answer) (rest : List Answer) (b : Bool) (o : Option ℕ) (later : Option Answer) → option_and_then (slice_get rest) o ≡ later → option_and_then (slice_get (a ∷ rest)) (cond b (Some 0) (option_map suc o)) ≡ cond b (Some a) later
by_test a rest true o later e = refl
by_test a rest false o later e = after a rest o ∙ e

pub found : (w : What) (n : Option ℕ) (answers : List Answer) → option_and_then (slice_get answers) (position (eq-value.it (key_for w n)) (map answer_key answers)) ≡ answer_for w n answers
found w n [] = refl
found w n (a ∷ rest) =
    ap (option_and_then (slice_get (a ∷ rest))) (position_cons (eq-value.it (key_for w n)) (answer_key a) (map answer_key rest) ∙ ap (λ b. cond b (Some 0) (option_map suc (position (eq-value.it (key_for w n)) (map answer_key rest)))) (key_eq w a.what n a.attempt))
    ∙ by_test a rest (is_thing a.what w && is_for a.attempt n) (position (eq-value.it (key_for w n)) (map answer_key rest)) (answer_for w n rest) (found w n rest)

-- a machine without answers gives none
pub none_given : (w : What) (n : Option ℕ) (answers : List Answer) → length answers ≡ 0 → None ≡ answer_for w n answers
none_given w n [] h = refl
none_given w n (a ∷ rest) h = absurd (omega (arith, h))
