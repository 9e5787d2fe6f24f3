-- The searches among numbers are those of the library.
use Rattle.std.proofs.Common.{◌≡◌, ◌<◌, ◌∙◌, ℕ, zero, suc, ◌+◌, ◌-◌, Bool, true, false, if◌then◌else◌, List, [], ◌∷◌, reverse, find, Option, Some, None, refl, ap, arith}
use Rattle.std.specs.List.{range_with_len}
use Rattle.std.specs.Option.{option_or}
use Rattle.std.proofs.lemmas.List.{reverse-append}
use Rattle.std.proofs.lemmas.List.Folds.{find-append}
use Rattle.sleep_model.specs.Walk.{first_where, last_where, or_else}

pub find_is_first : (p : ℕ → Bool) (xs : List ℕ) → find p xs ≡ first_where p xs
find_is_first p [] = refl
find_is_first p (x ∷ xs) = ap (λ o. if p x then Some x else o) (find_is_first p xs)

or_is_else : {A : Type 0} (one other : Option A) → option_or one other ≡ or_else one other
or_is_else None other = refl
or_is_else (Some x) other = refl

pub find_is_last : (p : ℕ → Bool) (xs : List ℕ) → find p (reverse xs) ≡ last_where p xs
find_is_last p [] = refl
find_is_last p (x ∷ xs) =
    ap (find p) (reverse-append (x ∷ []) xs) ∙ find-append p (reverse xs) (x ∷ [])
    ∙ or_is_else (find p (reverse xs)) (if p x then Some x else None)
    ∙ ap (λ o. or_else o (if p x then Some x else None)) (find_is_last p xs)

or_if : {A : Type 0} (b : Bool) (x : A) (one other : Option A) → or_else (if b then Some x else one) other ≡ (if b then Some x else or_else one other)
or_if true x one other = refl
or_if false x one other = refl

-- the last of one number more is that number, or the last before it
last_of_more : (p : ℕ → Bool) (a k n : ℕ) → n ≡ a + k → last_where p (range_with_len a (suc k)) ≡ (if p n then Some n else last_where p (range_with_len a k))
last_of_more p a zero n e = let same : n ≡ a = omega (arith, e) in rw same refl
last_of_more p a (suc k) n e =
    ap (λ o. or_else o (if p a then Some a else None)) (last_of_more p (a + 1) k n (omega (arith, e)))
    ∙ or_if (p n) n (last_where p (range_with_len (a + 1) k)) (if p a then Some a else None)

last_below : (p : ℕ → Bool) (k n : ℕ) → k ≡ n + 1 → last_where p (range_with_len 0 k) ≡ (if p n then Some n else last_where p (range_with_len 0 n))
last_below p k n e = let is : k ≡ suc n = omega (arith, e) in rw is (last_of_more p 0 n n (omega arith))

-- a search from above, if all from k on have failed: what k - 1 makes of it
module _ (p : ℕ → Bool) (n k : ℕ) (left : last_where p (range_with_len 0 n) ≡ last_where p (range_with_len 0 k)) (some : 0 < k) where
  left_below : last_where p (range_with_len 0 n) ≡ (if p (k - 1) then Some (k - 1) else last_where p (range_with_len 0 (k - 1)))
  left_below = left ∙ last_below p k (k - 1) (omega arith)

  pub below_passes : p (k - 1) ≡ true → Some (k - 1) ≡ last_where p (range_with_len 0 n)
  below_passes here = rw left_below (rw here refl)

  pub below_fails : p (k - 1) ≡ false → last_where p (range_with_len 0 n) ≡ last_where p (range_with_len 0 (k - 1))
  below_fails here = rw left_below (rw here refl)
