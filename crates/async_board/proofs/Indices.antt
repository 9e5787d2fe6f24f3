-- The index of each device in an order of different devices.
use Rattle.std.proofs.Common.{◌≡◌, ◌<◌, ◌+◌, ◌∙◌, ℕ, zero, suc, Bool, true, false, ◌==◌, ◌⊎◌, inl, inr, List, [], ◌∷◌, length, get_or, set, sym, ap, subst, arith, get_or-set_same, get_or-set_other, below_more}
use Rattle.std.specs.Bool.{OnTrue}
use Rattle.std.proofs.lemmas.Bool.{cases_eq, false≢true, eqb-true, or_cases}
use Rattle.sleep_model.specs.Order.{is_among}
use Rattle.sleep_model.proofs.Walks.{AllDifferent}
use Rattle.async_board.specs.Counts.{IsLengths}
use Rattle.async_board.specs.Walks.{AreIndices}
use Rattle.async_board.proofs.Counting.{among_at}

-- a device is at only one index
place_once : (xs : List ℕ) (i j : ℕ) → AllDifferent xs → i < j → j < length xs → get_or xs i 0 ≡ get_or xs j 0 → ⊥
place_once [] i j h l m e = omega arith
place_once (x ∷ xs) i zero h l m e = omega arith
place_once (x ∷ xs) zero (suc j) h l m e = false≢true (sym h.0 ∙ (ap (is_among xs) e ∙ among_at xs j (omega arith)))
place_once (x ∷ xs) (suc i) (suc j) h l m e = place_once xs i j h.1 (omega arith) (omega arith) e

-- one more device has its index
pub places_more : (order indices : List ℕ) (i : ℕ) → AllDifferent order → i < length order → get_or order i 0 < length indices
    → ((j : ℕ) → j < i → get_or indices (get_or order j 0) 0 ≡ j) → (j : ℕ) → j < i + 1 → get_or (set indices (get_or order i 0) i) (get_or order j 0) 0 ≡ j
places_more order indices i apart l within h =
    below_more (λ j. get_or (set indices (get_or order i 0) i) (get_or order j 0) 0 ≡ j) i
    (λ j m. get_or-set_other indices (get_or order i 0) (get_or order j 0) i 0 (place_once order j i apart m l) ∙ h j m)
    (get_or-set_same indices (get_or order i 0) i 0 within)

-- if the order stays its indices do
pub placed_still : (stays : Bool) (new old indices : List ℕ) → OnTrue stays (new ≡ old) → AreIndices old indices → OnTrue stays (AreIndices new indices)
placed_still true new old indices e h = subst (λ (o : List ℕ). AreIndices o indices) (sym e) h
placed_still false new old indices e h = tt

-- who is among a list is at an index
pub found : (xs : List ℕ) (d : ℕ) → is_among xs d ≡ true → (i : ℕ) × (i < length xs) × (get_or xs i 0 ≡ d)
found [] d m = absurd (false≢true m)
found (x ∷ xs) d m = by_place (found xs d) (or_cases (x == d) (is_among xs d) m)
  where
    by_place : (is_among xs d ≡ true → (i : ℕ) × (i < length xs) × (get_or xs i 0 ≡ d)) → ((x == d) ≡ true) ⊎ (is_among xs d ≡ true) → (i : ℕ) × (i < suc (length xs)) × (get_or (x ∷ xs) i 0 ≡ d)
    by_place rest (inl e) = (0, omega arith, eqb-true x d e)
    by_place rest (inr e) = let r = rest e in let l : suc r.0 < suc (length xs) = omega (arith, r.1) in (suc r.0, l, r.2)

-- all have their indices
pub placed_all : (order indices : List ℕ) → ((d : ℕ) → d < length order → is_among order d ≡ true) → length indices ≡ length order
    → ((i : ℕ) → i < length order → get_or indices (get_or order i 0) 0 ≡ i) → AreIndices order indices
placed_all order indices covers size once = record {
  size = size;
  once = once;
  within = λ d l. let f = found order d (covers d l) in subst (λ (k : ℕ). k < length order) (sym (at d f)) f.1;
  here = λ d l. let f = found order d (covers d l) in ap (λ k. get_or order k 0) (at d f) ∙ f.2;
}
  where
    at : (d : ℕ) (f : (i : ℕ) × (i < length order) × (get_or order i 0 ≡ d)) → get_or indices d 0 ≡ f.0
    at d f = ap (λ x. get_or indices x 0) (sym f.2) ∙ once f.0 f.1

-- one more device has its number
pub numbers_more : (f : ℕ → ℕ) (order numbers : List ℕ) (i : ℕ) → get_or order i 0 < length numbers
    → ((j : ℕ) → j < i → get_or numbers (get_or order j 0) 0 ≡ f (get_or order j 0)) → (j : ℕ) → j < i + 1 → get_or (set numbers (get_or order i 0) (f (get_or order i 0))) (get_or order j 0) 0 ≡ f (get_or order j 0)
numbers_more f order numbers i within h =
    below_more (λ j. get_or (set numbers (get_or order i 0) (f (get_or order i 0))) (get_or order j 0) 0 ≡ f (get_or order j 0)) i
    (λ j m. by_device j m (cases_eq (get_or order j 0) (get_or order i 0)))
    here
  where
    here : get_or (set numbers (get_or order i 0) (f (get_or order i 0))) (get_or order i 0) 0 ≡ f (get_or order i 0)
    here = get_or-set_same numbers (get_or order i 0) (f (get_or order i 0)) 0 within

    by_device : (j : ℕ) → j < i → (get_or order j 0 ≡ get_or order i 0) ⊎ (get_or order j 0 ≡ get_or order i 0 → ⊥) → get_or (set numbers (get_or order i 0) (f (get_or order i 0))) (get_or order j 0) 0 ≡ f (get_or order j 0)
    by_device j m (inl e) = subst (λ (d : ℕ). get_or (set numbers (get_or order i 0) (f (get_or order i 0))) d 0 ≡ f d) (sym e) here
    by_device j m (inr other) = get_or-set_other numbers (get_or order i 0) (get_or order j 0) (f (get_or order i 0)) 0 other ∙ h j m

-- all devices have the lengths of their rows
pub lengths_all : (row : ℕ → List ℕ) (order numbers : List ℕ) (n : ℕ) → n ≡ length order → ((d : ℕ) → d < length order → is_among order d ≡ true) → length numbers ≡ n
    → ((i : ℕ) → i < length order → get_or numbers (get_or order i 0) 0 ≡ length (row (get_or order i 0))) → IsLengths n row numbers
lengths_all row order numbers n e covers size h = record {
  size = size;
  each = λ d l. let f = found order d (covers d (omega (arith, e, l))) in subst (λ (x : ℕ). get_or numbers x 0 ≡ length (row x)) f.2 (h f.0 f.1);
}
