-- What stands at the end of a list, and what before it.
use Rattle.std.proofs.Common.{◌≡◌, ℕ, List, [], ◌∷◌, ◌++◌, length, drop, take, refl, ap}

pub taken_off : {A : Type 0} (xs ys : List A) → drop (length xs) (xs ++ ys) ≡ ys
taken_off [] ys = refl
taken_off (x ∷ xs) ys = taken_off xs ys

pub left_over : {A : Type 0} (xs ys : List A) → take (length xs) (xs ++ ys) ≡ xs
left_over [] ys = refl
left_over (x ∷ xs) ys = ap (λ zs. x ∷ zs) (left_over xs ys)

pub joined : {A : Type 0} (xs ys : List A) (z : A) → (xs ++ ys) ++ z ∷ [] ≡ xs ++ (ys ++ z ∷ [])
joined [] ys z = refl
joined (x ∷ xs) ys z = ap (λ zs. x ∷ zs) (joined xs ys z)

pub nothing_more : {A : Type 0} (xs : List A) → xs ≡ xs ++ []
nothing_more [] = refl
nothing_more (x ∷ xs) = ap (λ zs. x ∷ zs) (nothing_more xs)
