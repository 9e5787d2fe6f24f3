-- What a search from a cursor finds.
use Rattle.std.proofs.Common.{◌≡◌, ◌<◌, ◌≤◌, ◌-◌, ◌∙◌, ℕ, zero, suc, Bool, true, false, List, [], ◌∷◌, length, get_or, slice_get, cond, Option, Some, None, refl, sym, ap, arith}
use Rattle.sleep_model.specs.Walk.{first_where, last_where, or_else}
use Rattle.async_board.specs.Picks.{IsFirst, IsLast}

-- the first index that passes has the first device that does
first_at : (p : ℕ → Bool) (xs : List ℕ) (at : ℕ) → at ≤ length xs → ((i : ℕ) → i < at → p (get_or xs i 0) ≡ false)
    → (at < length xs → p (get_or xs at 0) ≡ true) → first_where p xs ≡ slice_get xs at
first_at p [] at fits before here = refl
first_at p (x ∷ xs) zero fits before here = ap (λ b. cond b (Some x) (first_where p xs)) (here (omega arith))
first_at p (x ∷ xs) (suc at) fits before here =
    ap (λ b. cond b (Some x) (first_where p xs)) (before 0 (omega arith))
    ∙ first_at p xs at (omega arith) (λ i l. before (suc i) (omega arith)) (λ l. here (omega arith))

pub first_is : (p : ℕ → Bool) (xs : List ℕ) (at : ℕ) → IsFirst p xs at → first_where p xs ≡ slice_get xs at
first_is p xs at h = first_at p xs at h.passed.fits h.passed.before h.here

-- none passes if none does
none_passes : (p : ℕ → Bool) (xs : List ℕ) → ((i : ℕ) → i < length xs → p (get_or xs i 0) ≡ false) → last_where p xs ≡ None
none_passes p [] h = refl
none_passes p (x ∷ xs) h =
    ap (λ o. or_else o (cond (p x) (Some x) None)) (none_passes p xs (λ i l. h (suc i) (omega arith)))
    ∙ ap (λ b. cond b (Some x) None) (h 0 (omega arith))

-- the last index that passes has the last device that does
last_at : (p : ℕ → Bool) (xs : List ℕ) (k : ℕ) → k < length xs → ((i : ℕ) → k < i → i < length xs → p (get_or xs i 0) ≡ false)
    → p (get_or xs k 0) ≡ true → last_where p xs ≡ slice_get xs k
last_at p [] k l behind here = absurd (omega arith)
last_at p (x ∷ xs) zero l behind here =
    ap (λ o. or_else o (cond (p x) (Some x) None)) (none_passes p xs (λ i m. behind (suc i) (omega arith) (omega arith)))
    ∙ ap (λ b. cond b (Some x) None) here
last_at p (x ∷ xs) (suc k) l behind here = by_rest (slice_get xs k) refl (last_at p xs k (omega arith) (λ i m n. behind (suc i) (omega arith) (omega arith)) here)
  where
    by_rest : (o : Option ℕ) → slice_get xs k ≡ o → last_where p xs ≡ slice_get xs k → or_else (last_where p xs) (cond (p x) (Some x) None) ≡ slice_get xs k
    by_rest None e h = absurd (within xs k (omega arith) e)
      where
        within : (ys : List ℕ) (j : ℕ) → j < length ys → slice_get ys j ≡ None → ⊥
        within [] j m f = omega arith
        within (y ∷ ys) zero m f = cc
        within (y ∷ ys) (suc j) m f = within ys j (omega arith) f
    by_rest (Some y) e h = ap (λ o. or_else o (cond (p x) (Some x) None)) (h ∙ e) ∙ sym e

pub last_is : (p : ℕ → Bool) (xs : List ℕ) (at : ℕ) → IsLast p xs at → 0 < at → last_where p xs ≡ slice_get xs (at - 1)
last_is p xs at h l =
    last_at p xs (at - 1) (let f : at ≤ length xs = h.ahead.fits in omega arith)
    (λ i m n. h.ahead.behind i (omega arith) n) (h.here l)

pub last_none : (p : ℕ → Bool) (xs : List ℕ) (at : ℕ) → IsLast p xs at → at ≡ 0 → last_where p xs ≡ None
last_none p xs at h e = none_passes p xs (λ i l. h.ahead.behind i (omega arith) l)
