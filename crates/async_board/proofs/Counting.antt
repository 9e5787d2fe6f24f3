-- Counts of devices that are lowered and raised along a row.
use Rattle.std.proofs.Common.{◌≡◌, ◌<◌, ◌+◌, ◌∙◌, ℕ, zero, suc, true, false, ◌==◌, ◌||◌, ◌⊎◌, inl, inr, List, [], ◌∷◌, length, get_or, take, refl, sym, ap, subst, arith}
use Rattle.std.proofs.lemmas.List.{take_more, take_all}
use Rattle.std.proofs.lemmas.Bool.{cases_eq, true≢false, ne_eqb, or_from, or_right}
use Rattle.std.proofs.Math.Bool.{or-false}
use Rattle.sleep_model.specs.Order.{is_among}
use Rattle.sleep_model.proofs.Walks.{AllDifferent, same_eq}
use Rattle.sleep_model.proofs.Dependents.{among_app, among_rest}
use Rattle.async_board.specs.Counts.{one, IsLoweredAt, IsRaisedAt, AreLowered, AreRaised}

-- what is at an index is among the list
pub among_at : (xs : List ℕ) (i : ℕ) → i < length xs → is_among xs (get_or xs i 0) ≡ true
among_at [] i l = absurd (omega arith)
among_at (x ∷ xs) zero l = ap (λ b. b || is_among xs x) (same_eq x)
among_at (x ∷ xs) (suc i) l = among_rest x xs (get_or xs i 0) (among_at xs i (omega arith))

-- what is at an index of different numbers is not among those before it
pub not_before : (xs : List ℕ) (i : ℕ) → AllDifferent xs → i < length xs → is_among (take i xs) (get_or xs i 0) ≡ false
not_before [] i h l = absurd (omega arith)
not_before (x ∷ xs) zero h l = refl
not_before (x ∷ xs) (suc i) h l =
    or_from (x == get_or xs i 0) (is_among (take i xs) (get_or xs i 0))
    (ne_eqb x (get_or xs i 0) (λ e. true≢false (sym (among_at xs i (omega arith)) ∙ (ap (is_among xs) (sym e) ∙ h.0))))
    (not_before xs i h.1 (omega arith))

among_next : (row : List ℕ) (i d : ℕ) → i < length row → is_among (take (i + 1) row) d ≡ (is_among (take i row) d || (get_or row i 0 == d))
among_next row i d l =
    ap (λ ys. is_among ys d) (take_more row i 0 l)
    ∙ (among_app (take i row) (get_or row i 0 ∷ []) d
    ∙ ap (λ b. is_among (take i row) d || b) (or-false (get_or row i 0 == d)))

among_same : (row : List ℕ) (i d : ℕ) → i < length row → (get_or row i 0 ≡ d → ⊥) → is_among (take (i + 1) row) d ≡ is_among (take i row) d
among_same row i d l other = among_next row i d l ∙ (ap (λ b. is_among (take i row) d || b) (ne_eqb (get_or row i 0) d other) ∙ or-false (is_among (take i row) d))

among_new : (row : List ℕ) (i : ℕ) → i < length row → is_among (take (i + 1) row) (get_or row i 0) ≡ true
among_new row i l = among_next row i (get_or row i 0) l ∙ or_right (is_among (take i row) (get_or row i 0)) (get_or row i 0 == get_or row i 0) (same_eq (get_or row i 0))

among_here : (row : List ℕ) (i x d : ℕ) → i < length row → x ≡ get_or row i 0 → x ≡ d → is_among (take (i + 1) row) d ≡ true
among_here row i x d l at same = subst (λ (j : ℕ). is_among (take (i + 1) row) j ≡ true) (sym at ∙ same) (among_new row i l)

not_here : (row : List ℕ) (i x d : ℕ) → AllDifferent row → i < length row → x ≡ get_or row i 0 → x ≡ d → is_among (take i row) d ≡ false
not_here row i x d apart l at same = subst (λ (j : ℕ). is_among (take i row) j ≡ false) (sym at ∙ same) (not_before row i apart l)

-- one more device of the row has one less
pub lowered_more : (row old now new : List ℕ) (i x : ℕ) → AllDifferent row → i < length row → x ≡ get_or row i 0
    → AreLowered (take i row) old now → IsLoweredAt x now new → AreLowered (take (i + 1) row) old new
lowered_more row old now new i x apart l at h step = record {
  size = step.size ∙ h.size;
  each = λ d m. by_place d m (cases_eq x d);
}
  where
    by_place : (d : ℕ) → d < length old → (x ≡ d) ⊎ (x ≡ d → ⊥) → get_or new d 0 + one (is_among (take (i + 1) row) d) ≡ get_or old d 0
    by_place d m (inl same) =
        let was : get_or now d 0 + 0 ≡ get_or old d 0 = ap (λ b. get_or now d 0 + one b) (sym (not_here row i x d apart l at same)) ∙ h.each d m in
        let less : get_or new d 0 + 1 ≡ get_or now d 0 = subst (λ (j : ℕ). get_or new j 0 + 1 ≡ get_or now j 0) same (step.here (omega (arith, h.size))) in
        ap (λ b. get_or new d 0 + one b) (among_here row i x d l at same) ∙ omega (arith, was, less)
    by_place d m (inr other) =
        ap (λ b. get_or new d 0 + one b) (among_same row i d l (λ e. other (at ∙ e)))
        ∙ (ap (λ k. k + one (is_among (take i row) d)) (step.others d (λ e. other (sym e))) ∙ h.each d m)

-- the next device of the row has some to lose
pub lowered_some : (row old now : List ℕ) (i x : ℕ) → AllDifferent row → i < length row → x ≡ get_or row i 0
    → ((d : ℕ) → d < length old → is_among row d ≡ true → 0 < get_or old d 0) → AreLowered (take i row) old now → x < length now → 0 < get_or now x 0
lowered_some row old now i x apart l at some h m =
    let is_in : is_among row x ≡ true = ap (is_among row) at ∙ among_at row i l in
    let within : x < length old = omega (arith, h.size) in
    let was : get_or now x 0 + 0 ≡ get_or old x 0 = ap (λ b. get_or now x 0 + one b) (sym (not_here row i x x apart l at refl)) ∙ h.each x within in
    omega (arith, was, some x within is_in)

-- one more device of the row has one more
pub raised_more : (row old now new : List ℕ) (i x : ℕ) → AllDifferent row → i < length row → x ≡ get_or row i 0
    → AreRaised (take i row) old now → IsRaisedAt x now new → AreRaised (take (i + 1) row) old new
raised_more row old now new i x apart l at h step = record {
  size = step.size ∙ h.size;
  each = λ d m. by_place d m (cases_eq x d);
}
  where
    by_place : (d : ℕ) → d < length old → (x ≡ d) ⊎ (x ≡ d → ⊥) → get_or new d 0 ≡ get_or old d 0 + one (is_among (take (i + 1) row) d)
    by_place d m (inl same) =
        let was : get_or now d 0 ≡ get_or old d 0 + 0 = h.each d m ∙ ap (λ b. get_or old d 0 + one b) (not_here row i x d apart l at same) in
        let more : get_or new d 0 ≡ get_or now d 0 + 1 = subst (λ (j : ℕ). get_or new j 0 ≡ get_or now j 0 + 1) same (step.here (omega (arith, h.size))) in
        let sum : get_or new d 0 ≡ get_or old d 0 + 1 = omega (arith, was, more) in
        sum ∙ ap (λ b. get_or old d 0 + one b) (sym (among_here row i x d l at same))
    by_place d m (inr other) =
        step.others d (λ e. other (sym e))
        ∙ (h.each d m ∙ ap (λ b. get_or old d 0 + one b) (sym (among_same row i d l (λ e. other (at ∙ e)))))

-- the next device of the row has fewer than there are devices
pub raised_few : (row old now : List ℕ) (i x : ℕ) → AllDifferent row → i < length row → x ≡ get_or row i 0
    → ((d : ℕ) → d < length old → is_among row d ≡ true → get_or old d 0 < length old) → AreRaised (take i row) old now → x < length now → get_or now x 0 < length now
raised_few row old now i x apart l at few h m =
    let is_in : is_among row x ≡ true = ap (is_among row) at ∙ among_at row i l in
    let within : x < length old = omega (arith, h.size) in
    let was : get_or now x 0 ≡ get_or old x 0 + 0 = h.each x within ∙ ap (λ b. get_or old x 0 + one b) (not_here row i x x apart l at refl) in
    omega (arith, was, few x within is_in, h.size)

-- the whole row
pub lowered_all : (row old now : List ℕ) → AreLowered (take (length row) row) old now → AreLowered row old now
lowered_all row old now h = subst (λ (r : List ℕ). AreLowered r old now) (take_all (length row) row (omega arith)) h

pub raised_all : (row old now : List ℕ) → AreRaised (take (length row) row) old now → AreRaised row old now
raised_all row old now h = subst (λ (r : List ℕ). AreRaised r old now) (take_all (length row) row (omega arith)) h
