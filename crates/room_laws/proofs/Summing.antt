-- Sums over lists.
use Rattle.std.proofs.Common.{◌≡◌, ◌≤◌, ◌+◌, ◌++◌, ◌∙◌, ℕ, zero, suc, Bool, true, false, List, [], ◌∷◌, map, sum, Option, Some, None, slice_get, cond, refl, arith}
use Rattle.std.specs.List.{sum_by, count_by, flat_map, filter}
use Rattle.std.proofs.lemmas.List.Sums.{sum_by-cons, sum-map}
use Rattle.room_laws.proofs.Weighing.{below, below_none}

-- the sum of f over a list
abbrev pub total : {X : Type 0} → (X → ℕ) → List X → ℕ
total f [] = 0
total f (x ∷ xs) = f x + total f xs

pub total_is : {X : Type 0} (f : X → ℕ) (xs : List X) → sum_by f xs ≡ total f xs
total_is f [] = refl
total_is f (x ∷ xs) = omega (arith, sum_by-cons f x xs, total_is f xs)

pub sum_is : {X : Type 0} (f : X → ℕ) (xs : List X) → sum (map f xs) ≡ total f xs
sum_is f xs = sum-map f xs ∙ total_is f xs

-- how many pass
abbrev pub one_where : {X : Type 0} → (X → Bool) → X → ℕ
one_where p x = cond (p x) 1 0

pub count_is : {X : Type 0} (p : X → Bool) (xs : List X) → count_by p xs ≡ total (one_where p) xs
count_is p xs = total_is (one_where p) xs

pub total_both : {X : Type 0} (f : X → ℕ) (xs ys : List X) → total f (xs ++ ys) ≡ total f xs + total f ys
total_both f [] ys = omega arith
total_both f (x ∷ xs) ys = omega (arith, total_both f xs ys)

pub total_flat : {X Y : Type 0} (f : Y → ℕ) (g : X → List Y) (xs : List X) → total f (flat_map g xs) ≡ total (λ x. total f (g x)) xs
total_flat f g [] = refl
total_flat f g (x ∷ xs) = omega (arith, total_both f (g x) (flat_map g xs), total_flat f g xs)

pub total_most : {X : Type 0} (f g : X → ℕ) (xs : List X) → ((x : X) → f x ≤ g x) → total f xs ≤ total g xs
total_most f g [] h = omega arith
total_most f g (x ∷ xs) h = omega (arith, h x, total_most f g xs h)

pub total_plus : {X : Type 0} (f g : X → ℕ) (xs : List X) → total (λ x. f x + g x) xs ≡ total f xs + total g xs
total_plus f g [] = refl
total_plus f g (x ∷ xs) = omega (arith, total_plus f g xs)

pub total_none : {X : Type 0} (xs : List X) → total (λ (x : X). 0) xs ≡ 0
total_none [] = refl
total_none (x ∷ xs) = omega (arith, total_none xs)

pub total_filter : {X : Type 0} (f : X → ℕ) (p : X → Bool) (xs : List X) → total f (filter p xs) ≤ total f xs
total_filter f p [] = omega arith
total_filter f p (x ∷ xs) = by_test (p x) (total_filter f p xs)
  where
    by_test : (b : Bool) → total f (filter p xs) ≤ total f xs → total f (cond b (x ∷ filter p xs) (filter p xs)) ≤ f x + total f xs
    by_test true l = omega (arith, l)
    by_test false l = omega (arith, l)

-- g of what is there
abbrev pub if_there : {X : Type 0} → (X → ℕ) → Option X → ℕ
if_there g None = 0
if_there g (Some x) = g x

below_first : (n : ℕ) (f : ℕ → ℕ) → below (suc n) f ≡ f 0 + below n (λ i. f (suc i))
below_first zero f = refl
below_first (suc n) f = omega (arith, below_first n f)

-- a sum over the numbers of a list's elements
pub below_total : {X : Type 0} (g : X → ℕ) (xs : List X) (n : ℕ) → below n (λ i. if_there g (slice_get xs i)) ≤ total g xs
below_total g [] n = omega (arith, below_none n)
below_total g (x ∷ xs) zero = omega arith
below_total g (x ∷ xs) (suc n) = omega (arith, below_first n (λ i. if_there g (slice_get (x ∷ xs) i)), below_total g xs n)
