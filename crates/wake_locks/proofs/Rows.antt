-- Rows of locks, and moments before which none of a row ends.
use Rattle.std.proofs.Common.{◌≡◌, ◌≢◌, ◌≤◌, ◌<◌, ◌+◌, ◌-◌, ◌*◌, ◌/◌, ◌∙◌, ◌⊎◌, min, inl, inr, ℕ, zero, suc, List, [], ◌∷◌, length, get_or, set, replicate, drop, length-set, get_or-set_same, get_or-set_other, drop-cons, refl, sym, ap, subst, arith}
use Rattle.std.proofs.lemmas.Bool.{cases_lt}
use Rattle.wake_locks.specs.declared.soonest.Soonest.{Soonest}
use Rattle.wake_locks.specs.Expiries.{next_due}
use Rattle.wake_locks.specs.LockFields.{AreFloors, IsSoonest, MatchDue, NoneEndsBefore, NoneEndsWithin, NoOtherEndsBefore, found_by, with_floor}
use Rattle.wake_locks.specs.Locks.{LockState, new_lock}
use Rattle.wake_locks.specs.LockStatuses.{end_or_never, never}
use Rattle.wake_locks.proofs.Placed.{any_of}
use Rattle.wake_locks.proofs.Sooner.{less, not_due, other_less}

-- two indices are the same or not
apart : (i j : ℕ) → (i ≡ j) ⊎ (i ≢ j)
apart i j = elim (cases_lt i j) [
  | inl l ↦ inr (λ e. omega (arith, l, e))
  | inr m ↦ elim (cases_lt j i) [
    | inl k ↦ inr (λ e. omega (arith, k, e))
    | inr n ↦ inl (omega (arith, m, n))
  ]
]

-- ---- the moments of rows

zeros : (n i : ℕ) → ◌≡◌ {A = ℕ} (get_or (replicate n 0) i 0) 0
zeros zero i = refl
zeros (suc n) zero = refl
zeros (suc n) (suc i) = zeros n i

-- no lock ends before 0
pub floors_new : (moments : List ℕ) (locks : List LockState) → moments ≡ replicate 13 0 → AreFloors moments locks
floors_new moments locks is = subst (λ (ms : List ℕ). AreFloors ms locks) (sym is) (record { rows = refl; below = λ j d l. omega (arith, zeros 13 (j / 8)) })

-- one lock of a row has another end
pub floors_lower : (moments : List ℕ) (at end : ℕ) (locks : List LockState) (new : LockState) → at < length locks → length locks ≤ 100 → end ≡ end_or_never new.status → AreFloors moments locks
    → AreFloors (set moments (at / 8) (min (get_or moments (at / 8) 0) end)) (set locks at new)
floors_lower moments at end locks new l few e h = record {
  rows = length-set moments (at / 8) (min (get_or moments (at / 8) 0) end) ∙ h.rows;
  below = λ j d k. elim (apart j at) [
    | inl is ↦ subst (λ i. get_or (set moments (at / 8) (min (get_or moments (at / 8) 0) end)) (i / 8) 0 ≤ end_or_never (get_or (set locks at new) i d).status) (sym is)
        (rw (get_or-set_same moments (at / 8) (min (get_or moments (at / 8) 0) end) 0 row_in, get_or-set_same locks at new d l) (omega (arith, e)))
    | inr not ↦ rw (get_or-set_other locks at j new d not) (low j (h.below j d (omega (arith, k, length-set locks at new))))
  ];
}
  where
    row_in : at / 8 < length moments
    row_in = omega (arith, l, few, h.rows)

    low : (j : ℕ) {n : ℕ} → get_or moments (j / 8) 0 ≤ n → get_or (set moments (at / 8) (min (get_or moments (at / 8) 0) end)) (j / 8) 0 ≤ n
    low j m = elim (apart (j / 8) (at / 8)) [
      | inl is ↦ rw (is, get_or-set_same moments (at / 8) (min (get_or moments (at / 8) 0) end) 0 row_in) (omega (arith, m, ap (λ i. get_or moments i 0) is))
      | inr not ↦ rw (get_or-set_other moments (at / 8) (j / 8) (min (get_or moments (at / 8) 0) end) 0 not) m
    ]

-- a row whose locks were all looked at
pub floors_row : (moments : List ℕ) (row least : ℕ) (locks : List LockState) → row * 8 < length locks → length locks ≤ 100 → NoneEndsWithin least (row * 8) (min (length locks) (row * 8 + 8)) locks → AreFloors moments locks
    → AreFloors (set moments row least) locks
floors_row moments row least locks l few none h = record {
  rows = length-set moments row least ∙ h.rows;
  below = λ j d k. elim (apart (j / 8) row) [
    | inl is ↦ rw (is, get_or-set_same moments row least 0 row_in) (none j d (omega (arith, is)) (omega (arith, is, k)))
    | inr not ↦ rw (get_or-set_other moments row (j / 8) least 0 not) (h.below j d k)
  ];
}
  where
    row_in : row < length moments
    row_in = omega (arith, l, few, h.rows)

-- one more lock looked at
pub within_more : (locks : List LockState) (at to : ℕ) (lock : LockState) (end least new : ℕ) → at < length locks → lock ≡ get_or locks at lock → end ≡ end_or_never lock.status → new ≡ min least end → NoneEndsWithin least (at + 1) to locks
    → NoneEndsWithin new at to locks
within_more locks at to lock end least new l is e n h j d f k = elim (cases_lt at j) [
  | inl m ↦ omega (arith, n, h j d (omega (arith, m)) k)
  | inr m ↦ subst (λ i. new ≤ end_or_never (get_or locks i d).status) {x = at} (omega (arith, f, m))
      (subst (λ (x : LockState). new ≤ end_or_never x.status) (is ∙ any_of locks at lock d l) (omega (arith, n, e)))
]

pub within_none : (never at : ℕ) (locks : List LockState) → NoneEndsWithin never at at locks
within_none never at locks j d f k = absurd (omega (arith, f, k))

-- ---- a row that is passed

-- one lock that ends later than the moment that is asked about
skip_one : (to floor : ℕ) (locks : List LockState) (found : Soonest) (at : ℕ) → to < floor → found.others ≤ floor → at < length locks → ((d : LockState) → floor ≤ end_or_never (get_or locks at d).status) → IsSoonest to locks (suc at) found → IsSoonest to locks at found
skip_one to floor locks found at late few l f h = record {
  within = omega (arith, l);
  after = omega (arith, h.after);
  last = h.last;
  few = h.few;
  first = subst (λ (xs : List LockState). MatchDue locks (next_due to xs) (found_by to found)) (sym left)
      (subst (λ o. MatchDue locks o (found_by to found)) (sym (not_due to x x.status (next_due to (drop (suc at) locks)) (omega (arith, late, f (new_lock []))))) h.first);
  least = subst (NoneEndsBefore (min found.end found.others)) (sym left) (omega (arith, few, f (new_lock [])), h.least);
  others = subst (NoOtherEndsBefore found.others (found.at - at)) (sym left)
      (subst (λ n. NoOtherEndsBefore found.others n (x ∷ drop (suc at) locks)) {x = suc (found.at - suc at)} (omega (arith, h.after)) (omega (arith, few, f (new_lock [])), h.others));
}
  where
    x : LockState
    x = get_or locks at (new_lock [])

    left : drop at locks ≡ x ∷ drop (suc at) locks
    left = drop-cons locks at (new_lock []) l

skip_on : (to floor : ℕ) (locks : List LockState) (found : Soonest) (n from : ℕ) → to < floor → found.others ≤ floor → from + n ≤ length locks → NoneEndsWithin floor from (from + n) locks → IsSoonest to locks (from + n) found → IsSoonest to locks from found
skip_on to floor locks found zero from late few l f h = subst (λ i. IsSoonest to locks i found) (omega arith) h
skip_on to floor locks found (suc n) from late few l f h =
    skip_on to floor locks found n from late few (omega (arith, l)) (λ j d b k. f j d b (omega (arith, k)))
    (skip_one to floor locks found (from + n) late few (omega (arith, l)) (λ d. f (from + n) d (omega arith) (omega arith)) (subst (λ i. IsSoonest to locks i found) {y = suc (from + n)} (omega arith) h))

-- what is found is so with a lower moment for the others
floored : (to floor : ℕ) (locks : List LockState) (from : ℕ) (found : Soonest) → IsSoonest to locks from found → IsSoonest to locks from (with_floor floor found)
floored to floor locks from found h = record {
  within = h.within;
  after = h.after;
  last = h.last;
  few = omega (arith, h.few);
  first = h.first;
  least = less (min found.end (min found.others floor)) (min found.end found.others) (drop from locks) (omega arith) h.least;
  others = other_less (min found.others floor) found.others (found.at - from) (drop from locks) (omega arith) h.others;
}

-- none of a row is due that has a later moment
pub passed : (to : ℕ) (moments : List ℕ) (row : ℕ) (locks : List LockState) (found : Soonest) → AreFloors moments locks → row * 8 < length locks → to < get_or moments row 0 → IsSoonest to locks (min (row * 8 + 8) (length locks)) found
    → IsSoonest to locks (row * 8) (with_floor (get_or moments row 0) found)
passed to moments row locks found h l late s =
    skip_on to (get_or moments row 0) locks (with_floor (get_or moments row 0) found) (min (row * 8 + 8) (length locks) - row * 8) (row * 8) late (omega arith) (omega (arith, l))
    (λ j d b k. let is : j / 8 ≡ row = omega (arith, b, k, l) in subst (λ i. get_or moments i 0 ≤ end_or_never (get_or locks j d).status) is (h.below j d (omega (arith, k, l))))
    (subst (λ i. IsSoonest to locks i (with_floor (get_or moments row 0) found)) {y = row * 8 + (min (row * 8 + 8) (length locks) - row * 8)} (omega (arith, l)) (floored to (get_or moments row 0) locks (min (row * 8 + 8) (length locks)) found s))
