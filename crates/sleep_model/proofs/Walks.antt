-- The position of a walk in an order of different devices, from how many it has passed.
use Rattle.std.proofs.Common.{◌≡◌, ◌<◌, ◌+◌, ◌∙◌, ℕ, zero, suc, Bool, true, false, not, ◌==◌, ◌||◌, List, [], ◌∷◌, length, drop, get_or, Some, None, refl, sym, ap, subst, arith}
use Rattle.std.specs.List.{range_with_len}
use Rattle.std.proofs.Math.Bool.{or-true}
use Rattle.std.proofs.Math.Seq.{drop-nil}
use Rattle.std.proofs.lemmas.Bool.{true≢false, false_from_ne_true}
use Rattle.std.proofs.lemmas.Bool.Decides.{nat_tests}
use Rattle.sleep_model.specs.Walk.{first_where, last_where}
use Rattle.sleep_model.specs.Order.{is_among}

-- no device is there twice
abbrev pub AllDifferent : List ℕ → Type 0
AllDifferent [] = Unit {0}
AllDifferent (x ∷ xs) = (is_among xs x ≡ false) × AllDifferent xs

pub same_eq : (x : ℕ) → (x == x) ≡ true
same_eq x = grind (arith, nat_tests)

-- what is among the last ones is among all
pub among_drop : (xs : List ℕ) (k d : ℕ) → is_among (drop k xs) d ≡ true → is_among xs d ≡ true
among_drop [] k d h = subst (λ (ys : List ℕ). is_among ys d ≡ true) (drop-nil k) h
among_drop (x ∷ xs) zero d h = h
among_drop (x ∷ xs) (suc k) d h = ap (λ b. (x == d) || b) (among_drop xs k d h) ∙ or-true (x == d)

not_among_drop : (xs : List ℕ) (k d : ℕ) → is_among xs d ≡ false → is_among (drop k xs) d ≡ false
not_among_drop xs k d h = false_from_ne_true _ (λ e. true≢false (sym (among_drop xs k d e) ∙ h))

-- no device passes if each fails
last_none : (p : ℕ → Bool) (xs : List ℕ) → ((d : ℕ) → is_among xs d ≡ true → p d ≡ false) → last_where p xs ≡ None
last_none p [] h = refl
last_none p (x ∷ xs) h =
    let here : p x ≡ false = h x (ap (λ b. b || is_among xs x) (same_eq x)) in
    let rest : last_where p xs ≡ None = last_none p xs (λ d m. h d (ap (λ b. (x == d) || b) m ∙ or-true (x == d))) in
    rw (rest, here) refl

-- nothing is left of a walk that has passed all
pub last_not_down_none : (xs : List ℕ) → last_where (λ d. not (is_among xs d)) xs ≡ None
last_not_down_none xs = last_none _ xs (λ d m. ap not m)

-- the last device that is not among those from k + 1 on is the one at k
pub last_not_down : (xs : List ℕ) (k : ℕ) → AllDifferent xs → k < length xs → last_where (λ d. not (is_among (drop (suc k) xs) d)) xs ≡ Some (get_or xs k 0)
last_not_down [] k h l = absurd (omega arith)
last_not_down (x ∷ xs) zero h l = rw (last_not_down_none xs, h.0) refl
last_not_down (x ∷ xs) (suc k) h l = rw (last_not_down xs k h.1 (omega arith)) refl

-- the first device among those from k on is the one at k
pub first_suspended : (xs : List ℕ) (k : ℕ) → AllDifferent xs → k < length xs → first_where (is_among (drop k xs)) xs ≡ Some (get_or xs k 0)
first_suspended [] k h l = absurd (omega arith)
first_suspended (x ∷ xs) zero h l = rw (same_eq x) refl
first_suspended (x ∷ xs) (suc k) h l = rw (not_among_drop xs k x h.0) (first_suspended xs k h.1 (omega arith))

-- none is among no devices
pub first_suspended_none : (xs : List ℕ) → first_where (is_among []) xs ≡ None
first_suspended_none [] = refl
first_suspended_none (x ∷ xs) = first_suspended_none xs

-- a number below a run of numbers is not among them
pub below_run : (a n d : ℕ) → d < a → is_among (range_with_len a n) d ≡ false
below_run a zero d h = refl
below_run a (suc n) d h =
    let other : (a == d) ≡ false = grind (arith, nat_tests) in
    rw other (below_run (a + 1) n d (omega arith))

-- a run of numbers has no number twice
pub run_different : (a n : ℕ) → AllDifferent (range_with_len a n)
run_different a zero = tt
run_different a (suc n) = (below_run (a + 1) n a (omega arith), run_different (a + 1) n)
