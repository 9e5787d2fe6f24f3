-- Sums of weights, and how one that falls moves them.
use Rattle.std.proofs.Common.{◌≡◌, ◌≢◌, ◌≤◌, ◌<◌, ◌+◌, ◌*◌, ℕ, zero, suc, Bool, true, false, ◌==◌, refl, sym, subst, arith}
use Rattle.std.proofs.lemmas.Bool.{eqb-true, eqb-false}
use Rattle.room_laws.specs.AttemptRoom.{sum_below}

-- if none weighs more the sum is no more
pub sum_less : (n : ℕ) (f g : ℕ → ℕ) → ((x : ℕ) → g x ≤ f x) → sum_below n g ≤ sum_below n f
sum_less zero f g h = omega arith
sum_less (suc n) f g h = omega (arith, h n, sum_less n f g h)

-- if one weighs less, and none more, the sum is less
pub sum_falls : (n d : ℕ) (f g : ℕ → ℕ) → ((x : ℕ) → x ≢ d → g x ≤ f x) → g d + 1 ≤ f d → d < n → sum_below n g + 1 ≤ sum_below n f
sum_falls zero d f g h here l = absurd (omega arith)
sum_falls (suc n) d f g h here l = by_test (sum_falls n d f g h here) (n == d) refl
  where
    every : (x : ℕ) → (b : Bool) → (x == d) ≡ b → g x ≤ f x
    every x true e = subst (λ (y : ℕ). g y ≤ f y) (sym (eqb-true x d e)) (omega (arith, here))
    every x false e = h x (eqb-false x d e)

    by_test : (d < n → sum_below n g + 1 ≤ sum_below n f) → (b : Bool) → (n == d) ≡ b → g n + sum_below n g + 1 ≤ f n + sum_below n f
    by_test rest true e =
        let falls : g n + 1 ≤ f n = subst (λ (y : ℕ). g y + 1 ≤ f y) (sym (eqb-true n d e)) here in
        omega (arith, falls, sum_less n f g (λ x. every x (x == d) refl))
    by_test rest false e =
        let other : n ≢ d = eqb-false n d e in
        let less : d < n = omega (arith, other) in
        omega (arith, h n other, rest less)

-- what each weighs at most bounds the sum
pub sum_most : (n k : ℕ) (f : ℕ → ℕ) → ((x : ℕ) → f x ≤ k) → sum_below n f ≤ n * k
sum_most zero k f h = omega arith
sum_most (suc n) k f h = omega (arith, h n, sum_most n k f h)
