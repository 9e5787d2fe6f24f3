-- The entries of a log, those that were passed and those that are left.
use Rattle.std.proofs.Common.{◌≡◌, ◌+◌, ◌++◌, ◌∙◌, ℕ, zero, suc, Bool, true, List, [], ◌∷◌, reverse, take, drop, take-append-drop, Some, refl, sym, ap, subst, slice_get, add-one}
use Rattle.std.specs.List.{list_all}
use Rattle.std.proofs.lemmas.Bool.{and_parts}
use Rattle.std.proofs.lemmas.List.{reverse-append}
use Rattle.sleep_model.specs.declared.entry.Entry.{Entry}

-- the first that is left follows those that were passed
pub first_left : (xs : List Entry) (n : ℕ) (x : Entry) (rest : List Entry) → drop n xs ≡ x ∷ rest → slice_get xs n ≡ Some x
first_left [] zero x rest h = absurd (cc)
first_left [] (suc n) x rest h = absurd (cc)
first_left (y ∷ ys) zero x rest h = cc
first_left (y ∷ ys) (suc n) x rest h = first_left ys n x rest h

-- once it is passed the others are left
pub then_left : (xs : List Entry) (n k : ℕ) (x : Entry) (rest : List Entry) → k ≡ n + 1 → drop n xs ≡ x ∷ rest → rest ≡ drop k xs
then_left xs n k x rest e h = by xs n h ∙ ap (λ j. drop j xs) (sym (e ∙ add-one n))
  where
    by : (xs : List Entry) (n : ℕ) → drop n xs ≡ x ∷ rest → rest ≡ drop (suc n) xs
    by [] zero h = absurd (cc)
    by [] (suc n) h = absurd (cc)
    by (y ∷ ys) zero h = cc
    by (y ∷ ys) (suc n) h = by ys n h

-- each entry of a list is as all are
pub one_of_all : (f : Entry → Bool) (xs : List Entry) (n : ℕ) (x : Entry) → list_all f xs ≡ true → slice_get xs n ≡ Some x → f x ≡ true
one_of_all f [] n x h e = absurd (cc)
one_of_all f (y ∷ ys) zero x h e = let same : y ≡ x = cc in subst (λ z. f z ≡ true) same (and_parts (f y) (list_all f ys) h).0
one_of_all f (y ∷ ys) (suc n) x h e = one_of_all f ys n x (and_parts (f y) (list_all f ys) h).1 e

taken : (xs : List Entry) (n : ℕ) (x : Entry) → slice_get xs n ≡ Some x → reverse (take (suc n) xs) ≡ x ∷ reverse (take n xs)
taken xs n x h = ap reverse (by xs n h) ∙ reverse-append (take n xs) (x ∷ [])
  where
    by : (xs : List Entry) (n : ℕ) → slice_get xs n ≡ Some x → take (suc n) xs ≡ take n xs ++ x ∷ []
    by [] n h = absurd (cc)
    by (y ∷ ys) zero h = let e : y ≡ x = cc in ap (λ z. z ∷ []) e
    by (y ∷ ys) (suc n) h = ap (λ zs. y ∷ zs) (by ys n h)

-- what was passed, the newest first, with one more
pub one_more : (xs : List Entry) (n k : ℕ) (x : Entry) → slice_get xs n ≡ Some x → k ≡ n + 1 → reverse (take k xs) ≡ x ∷ reverse (take n xs)
one_more xs n k x h e = ap (λ j. reverse (take j xs)) (e ∙ add-one n) ∙ taken xs n x h

-- all entries, the newest first, if one follows those that were passed
pub parted : (xs : List Entry) (n : ℕ) (x : Entry) → slice_get xs n ≡ Some x → reverse xs ≡ reverse (drop (suc n) xs) ++ x ∷ reverse (take n xs)
parted xs n x h =
    ap reverse (sym (take-append-drop (suc n) xs)) ∙ (reverse-append (take (suc n) xs) (drop (suc n) xs)
    ∙ ap (λ (zs : List Entry). reverse (drop (suc n) xs) ++ zs) (taken xs n x h))

-- if none is left all were passed
pub all_passed : (xs : List Entry) (n : ℕ) → [] ≡ drop n xs → reverse (take n xs) ≡ reverse xs
all_passed xs n h = ap reverse (by xs n h)
  where
    by : (xs : List Entry) (n : ℕ) → [] ≡ drop n xs → take n xs ≡ xs
    by [] zero h = refl
    by [] (suc n) h = refl
    by (y ∷ ys) zero h = absurd (cc)
    by (y ∷ ys) (suc n) h = ap (λ zs. y ∷ zs) (by ys n h)
