-- Searches in rows that have each device once, and rows in which none is found.
use Rattle.std.proofs.Common.{◌≡◌, ◌<◌, ◌∙◌, ℕ, zero, suc, Bool, true, false, not, ◌==◌, ◌&&◌, List, [], ◌∷◌, length, filter, get_or, cond, Some, None, refl, sym, ap, arith}
use Rattle.std.specs.Prelude.{is_none}
use Rattle.std.specs.List.{find, list_all}
use Rattle.std.proofs.lemmas.Bool.{eqb-true}
use Rattle.std.proofs.Math.Dec.{eqb-suc-zero}
use Rattle.sleep_model.specs.Links.{first_occurrences}
use Rattle.sleep_model.specs.Walk.{first_where}
use Rattle.sleep_model.proofs.Searches.{find_is_first}
use Rattle.async_board.specs.Counts.{IsCount}
use Rattle.async_board.specs.Sides.{IsOpenCount, is_open, beside, open_counts}
use Rattle.async_board.specs.Walks.{IsWalk}
use Rattle.async_board.specs.declared.rows.Side.{Side}
use Rattle.async_board.specs.declared.rows.Side.TheVariants as side
use Rattle.async_board.specs.declared.walk.Layout.{Layout}
use Rattle.async_board.specs.declared.walk.Walk.{Walk}

-- a device that does not pass may be left out
first_others : (p : ℕ → Bool) (x : ℕ) (ys : List ℕ) → p x ≡ false → first_where p (filter (λ y. not (y == x)) ys) ≡ first_where p ys
first_others p x [] e = refl
first_others p x (y ∷ ys) e = by_test (first_others p x ys e) (y == x) refl
  where
    by_test : first_where p (filter (λ z. not (z == x)) ys) ≡ first_where p ys → (b : Bool) → (y == x) ≡ b → first_where p (cond (not b) (y ∷ filter (λ z. not (z == x)) ys) (filter (λ z. not (z == x)) ys)) ≡ cond (p y) (Some y) (first_where p ys)
    by_test rest true f = rest ∙ ap (λ b. cond b (Some y) (first_where p ys)) (sym (ap p (eqb-true y x f) ∙ e))
    by_test rest false f = ap (λ o. cond (p y) (Some y) o) rest

pub first_once : (p : ℕ → Bool) (xs : List ℕ) → first_where p (first_occurrences xs) ≡ first_where p xs
first_once p [] = refl
first_once p (x ∷ xs) = by_test (first_once p xs) (p x) refl
  where
    by_test : first_where p (first_occurrences xs) ≡ first_where p xs → (b : Bool) → p x ≡ b → cond b (Some x) (first_where p (filter (λ y. not (y == x)) (first_occurrences xs))) ≡ cond b (Some x) (first_where p xs)
    by_test rest true e = refl
    by_test rest false e = first_others p x (first_occurrences xs) e ∙ rest

-- a search in the row that has each once
pub found_once : (p : ℕ → Bool) (xs row : List ℕ) → row ≡ first_occurrences xs → find p row ≡ first_where p xs
found_once p xs row e = ap (find p) e ∙ (find_is_first p (first_occurrences xs) ∙ first_once p xs)

-- a device that passes may be left out
all_others : (p : ℕ → Bool) (x : ℕ) (ys : List ℕ) → p x ≡ true → list_all p (filter (λ y. not (y == x)) ys) ≡ list_all p ys
all_others p x [] e = refl
all_others p x (y ∷ ys) e = by_test (all_others p x ys e) (y == x) refl
  where
    by_test : list_all p (filter (λ z. not (z == x)) ys) ≡ list_all p ys → (b : Bool) → (y == x) ≡ b → list_all p (cond (not b) (y ∷ filter (λ z. not (z == x)) ys) (filter (λ z. not (z == x)) ys)) ≡ (p y && list_all p ys)
    by_test rest true f = rest ∙ ap (λ b. b && list_all p ys) (sym (ap p (eqb-true y x f) ∙ e))
    by_test rest false f = ap (λ b. p y && b) rest

pub all_once : (p : ℕ → Bool) (xs : List ℕ) → list_all p (first_occurrences xs) ≡ list_all p xs
all_once p [] = refl
all_once p (x ∷ xs) = by_test (all_once p xs) (p x) refl
  where
    by_test : list_all p (first_occurrences xs) ≡ list_all p xs → (b : Bool) → p x ≡ b → (b && list_all p (filter (λ y. not (y == x)) (first_occurrences xs))) ≡ (b && list_all p xs)
    by_test rest true e = all_others p x (first_occurrences xs) e ∙ rest
    by_test rest false e = refl

-- if none passes, none is found
none_found : (p : ℕ → Bool) (xs : List ℕ) → length (filter p xs) ≡ 0 → first_where p xs ≡ None
none_found p [] e = refl
none_found p (x ∷ xs) e = by_test (none_found p xs) (p x) refl e
  where
    by_test : (length (filter p xs) ≡ 0 → first_where p xs ≡ None) → (b : Bool) → p x ≡ b → length (cond b (x ∷ filter p xs) (filter p xs)) ≡ 0 → cond b (Some x) (first_where p xs) ≡ None
    by_test rest true f g = absurd (omega arith)
    by_test rest false f g = rest g

pub none_counted : (n : ℕ) (p : ℕ → Bool) (row : ℕ → List ℕ) (counts : List ℕ) (d : ℕ) → IsCount n p (λ x. first_occurrences (row x)) counts → (get_or counts d 1 == 0) ≡ true → first_where p (row d) ≡ None
none_counted n p row counts d h z = sym (first_once p (row d)) ∙ none_found p (first_occurrences (row d)) (sym (h.each d (omega (arith, within, h.size))) ∙ zero_at)
  where
    read : (xs : List ℕ) (i : ℕ) → get_or xs i 1 ≡ 0 → (i < length xs) × (get_or xs i 0 ≡ 0)
    read [] i e = absurd (omega arith)
    read (x ∷ xs) zero e = (omega arith, e)
    read (x ∷ xs) (suc i) e = let r = read xs i e in (omega (arith, r.0), r.1)

    within : d < length counts
    within = (read counts d (eqb-true (get_or counts d 1) 0 z)).0

    zero_at : get_or counts d 0 ≡ 0
    zero_at = (read counts d (eqb-true (get_or counts d 1) 0 z)).1

-- a walk has the counts of either side
pub open_kept : (l : Layout) (w : Walk) → IsWalk l w → (at : Side) → IsOpenCount at l.links.parents l.links.links w.states.items (open_counts at w)
unfolding is_open beside open_counts
open_kept l w k side.Below = k.below
open_kept l w k side.Above = k.above

-- none passes exactly if none is found
none_or_found : (p : ℕ → Bool) (xs : List ℕ) → (length (filter p xs) == 0) ≡ is_none (first_where p xs)
none_or_found p [] = refl
none_or_found p (x ∷ xs) = by_test (none_or_found p xs) (p x) refl
  where
    by_test : (length (filter p xs) == 0) ≡ is_none (first_where p xs) → (b : Bool) → p x ≡ b → (length (cond b (x ∷ filter p xs) (filter p xs)) == 0) ≡ is_none (cond b (Some x) (first_where p xs))
    by_test rest true e = eqb-suc-zero (length (filter p xs))
    by_test rest false e = rest

-- none of the row that has each once passes exactly if none is found
pub free : (p : ℕ → Bool) (xs : List ℕ) → (length (filter p (first_occurrences xs)) == 0) ≡ is_none (first_where p xs)
free p xs = none_or_found p (first_occurrences xs) ∙ ap is_none (first_once p xs)
