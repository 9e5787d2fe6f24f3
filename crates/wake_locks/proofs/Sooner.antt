-- The lock that ends first, and moments before which none ends.
use Rattle.std.proofs.Common.{◌≡◌, ◌≤◌, ◌<◌, ◌-◌, ◌∙◌, min, cond, Bool, true, false, ℕ, zero, suc, List, [], ◌∷◌, length, get_or, set, drop, Option, Some, None, refl, sym, ap, subst, arith, drop-cons}
use Rattle.std.specs.Prelude.{nat_le}
use Rattle.std.specs.List.{insert}
use Rattle.std.proofs.lemmas.Bool.Decides.{nat_tests}
use Rattle.wakeup_source.specs.SourceStates.{latest}
use Rattle.wake_locks.specs.declared.soonest.Soonest.{Soonest}
use Rattle.wake_locks.specs.declared.status.LockStatus.{LockStatus}
use Rattle.wake_locks.specs.declared.status.LockStatus.TheVariants.{Inactive, Endless, Until}
use Rattle.wake_locks.specs.Expiries.{Due, earlier_of, due_of, next_due}
use Rattle.wake_locks.specs.LockFields.{IsNotBefore, IsSoonest, MatchDue, NoneEndsBefore, NoOtherEndsBefore, found_by, with_lock}
use Rattle.wake_locks.specs.Locks.{LockState}
use Rattle.wake_locks.specs.LockStatuses.{end_of, end_or_never, never}

-- ---- moments before which none ends

pub less : (sooner soonest : ℕ) (locks : List LockState) → sooner ≤ soonest → NoneEndsBefore soonest locks → NoneEndsBefore sooner locks
less sooner soonest [] l h = tt
less sooner soonest (x ∷ xs) l h = (omega (arith, h.0, l), less sooner soonest xs l h.1)

pub other_less : (sooner others at : ℕ) (locks : List LockState) → sooner ≤ others → NoOtherEndsBefore others at locks → NoOtherEndsBefore sooner at locks
other_less sooner others at [] l h = tt
other_less sooner others zero (x ∷ xs) l h = less sooner others xs l h
other_less sooner others (suc at) (x ∷ xs) l h = (omega (arith, h.0, l), other_less sooner others at xs l h.1)

-- a lock that changes
pub set_sooner : (soonest at : ℕ) (locks : List LockState) (new : LockState) → NoneEndsBefore soonest locks → NoneEndsBefore (min soonest (end_or_never new.status)) (set locks at new)
set_sooner soonest at [] new h = tt
set_sooner soonest zero (x ∷ xs) new h = (omega arith, less (min soonest (end_or_never new.status)) soonest xs (omega arith) h.1)
set_sooner soonest (suc at) (x ∷ xs) new h = (omega (arith, h.0), set_sooner soonest at xs new h.1)

-- a new lock
pub insert_sooner : (soonest at : ℕ) (locks : List LockState) (new : LockState) → at ≤ length locks → NoneEndsBefore soonest locks → NoneEndsBefore (min soonest (end_or_never new.status)) (insert locks at new)
insert_sooner soonest zero locks new l h = (omega arith, less (min soonest (end_or_never new.status)) soonest locks (omega arith) h)
insert_sooner soonest (suc at) [] new l h = absurd (omega (arith, l))
insert_sooner soonest (suc at) (x ∷ xs) new l h = (omega (arith, h.0), insert_sooner soonest at xs new (omega (arith, l)) h.1)

-- the lock that ended
pub other_set : (others at : ℕ) (locks : List LockState) (new : LockState) → others ≤ end_or_never new.status → NoOtherEndsBefore others at locks → NoneEndsBefore others (set locks at new)
other_set others at [] new l h = tt
other_set others zero (x ∷ xs) new l h = (l, h)
other_set others (suc at) (x ∷ xs) new l h = (h.0, other_set others at xs new l h.1)

-- a lock that ends later changes nothing of what is due
pub not_due : (to : ℕ) (lock : LockState) (s : LockStatus) (o : Option Due) → to < end_or_never s → due_of to lock s o ≡ o
not_due to lock Inactive o l = refl
not_due to lock Endless o l = refl
not_due to lock (Until end) o l =
    let late : nat_le end to ≡ false = grind (arith, nat_tests) in
    rw late refl

-- before such a moment none is due
pub none_by : (to soonest : ℕ) (locks : List LockState) → to < soonest → NoneEndsBefore soonest locks → next_due to locks ≡ None
none_by to soonest [] l h = refl
none_by to soonest (x ∷ xs) l h = not_due to x x.status (next_due to xs) (omega (arith, l, h.0)) ∙ none_by to soonest xs l h.1

-- ---- the lock that ends first

-- none is found after the last
pub none_after : (to : ℕ) (locks : List LockState) (at : ℕ) → to < never → at ≡ length locks → IsSoonest to locks at (record { at = at; end = never; others = never })
none_after to locks at l e = record {
  within = omega (arith, e);
  after = omega arith;
  last = omega arith;
  few = omega arith;
  first = subst (λ (xs : List LockState). MatchDue locks (next_due to xs) (found_by to (record { at = at; end = never; others = never }))) (sym (nothing locks at e)) later;
  least = subst (NoneEndsBefore (min never never)) (sym (nothing locks at e)) tt;
  others = subst (NoOtherEndsBefore never (at - at)) (sym (nothing locks at e)) tt;
}
  where
    nothing : (xs : List LockState) (n : ℕ) → n ≡ length xs → drop n xs ≡ []
    nothing [] zero e = refl
    nothing [] (suc n) e = absurd (omega (arith, e))
    nothing (x ∷ xs) zero e = absurd (omega (arith, e))
    nothing (x ∷ xs) (suc n) e = nothing xs n (omega (arith, e))

    later : MatchDue locks None (found_by to (record { at = at; end = never; others = never }))
    later =
        let late : nat_le never to ≡ false = grind (arith, nat_tests) in
        rw late tt

module _ (locks : List LockState) (to : ℕ) (found : Soonest) where
  -- if one is due it is the one that was found
  found_is : (due : Due) → MatchDue locks (Some due) (found_by to found) → (nat_le found.end to ≡ true) × (found.end ≡ due.at)
  found_is due m = go (nat_le found.end to) m
    where
      go : (b : Bool) → MatchDue locks (Some due) (cond b (Some (found.at, found.end)) None) → (b ≡ true) × (found.end ≡ due.at)
      go true m = (refl, m.2)
      go false m = absurd m

  -- if none is due none was found
  none_found : MatchDue locks None (found_by to found) → nat_le found.end to ≡ false
  none_found m = go (nat_le found.end to) m
    where
      go : (b : Bool) → MatchDue locks None (cond b (Some (found.at, found.end)) None) → b ≡ false
      go true m = absurd m
      go false m = refl

  module _ (at : ℕ) (lock : LockState) (in_range : at < length locks) (is : (d : LockState) → get_or locks at d ≡ lock) where
    -- a lock that ends first of all is the one that is due
    first_due : (end : ℕ) (o : Option Due) → lock.status ≡ Until end → latest lock.own ≤ end → nat_le end found.end ≡ true → MatchDue locks o (found_by to found) → MatchDue locks (earlier_of lock end o) (Some (at, end))
    first_due end None s b e m = (in_range, is, refl, s, b)
    first_due end (Some due) s b e m =
        let sooner : nat_le end due.at ≡ true = grind (arith, nat_tests, found_is due m) in
        rw sooner (in_range, is, refl, s, b)

    -- one that ends later is not
    later_due : (end : ℕ) (o : Option Due) → nat_le end found.end ≡ false → nat_le end to ≡ true → MatchDue locks o (found_by to found) → MatchDue locks (earlier_of lock end o) (found_by to found)
    later_due end None e t m = absurd (let no : nat_le found.end to ≡ false = none_found m in grind (arith, nat_tests))
    later_due end (Some due) e t m =
        let later : nat_le end due.at ≡ false = grind (arith, nat_tests, found_is due m) in
        rw later m

    -- if it ends after the moment that is asked about, what was found stays as it is
    late_due : (end : ℕ) (o : Option Due) → nat_le end found.end ≡ true → nat_le end to ≡ false → MatchDue locks o (found_by to found) → MatchDue locks o None
    late_due end o e t m =
        let late : nat_le found.end to ≡ false = grind (arith, nat_tests) in
        subst (λ b. MatchDue locks o (cond b (Some (found.at, found.end)) None)) late m

    -- one that does not end by itself
    never_due : (o : Option Due) → to < never → MatchDue locks o (found_by to found) → MatchDue locks o (found_by to (with_lock at never found))
    never_due o l m = go (nat_le never found.end) refl
      where
        go : (b : Bool) → nat_le never found.end ≡ b → MatchDue locks o (found_by to (cond b (record { at = at; end = never; others = min found.others found.end }) (record { at = found.at; end = found.end; others = min found.others never })))
        go true e =
            let never_by : nat_le never to ≡ false = grind (arith, nat_tests) in
            let found_late : nat_le found.end to ≡ false = grind (arith, nat_tests) in
            rw never_by (subst (λ b. MatchDue locks o (cond b (Some (found.at, found.end)) None)) found_late m)
        go false e = m

    end_due : (end : ℕ) (o : Option Due) → lock.status ≡ Until end → latest lock.own ≤ end → MatchDue locks o (found_by to found) → MatchDue locks (due_of to lock (Until end) o) (found_by to (with_lock at end found))
    end_due end o s b m = go (nat_le end found.end) refl (nat_le end to) refl
      where
        go : (first : Bool) → nat_le end found.end ≡ first → (due : Bool) → nat_le end to ≡ due → MatchDue locks (cond due (earlier_of lock end o) o) (found_by to (cond first (record { at = at; end = end; others = min found.others found.end }) (record { at = found.at; end = found.end; others = min found.others end })))
        go true e true t = rw t (first_due end o s b e m)
        go true e false t = rw t (late_due end o e t m)
        go false e true t = later_due end o e t m
        go false e false t = m

    -- what is due with one more lock is what is found with it
    pub more_due : (s : LockStatus) (o : Option Due) → lock.status ≡ s → IsNotBefore (latest lock.own) (end_of s) → to < never → MatchDue locks o (found_by to found) → MatchDue locks (due_of to lock s o) (found_by to (with_lock at (end_or_never s) found))
    more_due Inactive o e b l m = never_due o l m
    more_due Endless o e b l m = never_due o l m
    more_due (Until end) o e b l m = end_due end o e b m

-- the claim for the rest of the locks
least_more : (at end : ℕ) (found : Soonest) (lock : LockState) (locks : List LockState) → end ≡ end_or_never lock.status → NoneEndsBefore (min found.end found.others) locks
    → NoneEndsBefore (min (with_lock at end found).end (with_lock at end found).others) (lock ∷ locks)
least_more at end found lock locks e h = go (nat_le end found.end)
  where
    go : (b : Bool)
        → NoneEndsBefore (min (cond {A = Soonest} b (record { at = at; end = end; others = min found.others found.end }) (record { at = found.at; end = found.end; others = min found.others end })).end (cond {A = Soonest} b (record { at = at; end = end; others = min found.others found.end }) (record { at = found.at; end = found.end; others = min found.others end })).others) (lock ∷ locks)
    go true = (omega (arith, e), less (min end (min found.others found.end)) (min found.end found.others) locks (omega arith) h)
    go false = (omega (arith, e), less (min found.end (min found.others end)) (min found.end found.others) locks (omega arith) h)

others_more : (at end : ℕ) (found : Soonest) (lock : LockState) (locks : List LockState) → end ≡ end_or_never lock.status → suc at ≤ found.at → NoneEndsBefore (min found.end found.others) locks → NoOtherEndsBefore found.others (found.at - suc at) locks
    → NoOtherEndsBefore (with_lock at end found).others ((with_lock at end found).at - at) (lock ∷ locks)
others_more at end found lock locks e b h k = go (nat_le end found.end)
  where
    go : (t : Bool)
        → NoOtherEndsBefore (cond {A = Soonest} t (record { at = at; end = end; others = min found.others found.end }) (record { at = found.at; end = found.end; others = min found.others end })).others ((cond {A = Soonest} t (record { at = at; end = end; others = min found.others found.end }) (record { at = found.at; end = found.end; others = min found.others end })).at - at) (lock ∷ locks)
    go true =
        subst (λ n. NoOtherEndsBefore (min found.others found.end) n (lock ∷ locks)) {x = zero} (omega arith)
        (less (min found.others found.end) (min found.end found.others) locks (omega arith) h)
    go false =
        subst (λ n. NoOtherEndsBefore (min found.others end) n (lock ∷ locks)) {x = suc (found.at - suc at)} (omega (arith, b))
        (omega (arith, e), other_less (min found.others end) found.others (found.at - suc at) locks (omega arith) k)

-- one more lock
pub one_more : (to : ℕ) (locks : List LockState) (at : ℕ) (lock : LockState) (end : ℕ) (found : Soonest) → to < never → at < length locks → lock ≡ get_or locks at lock → end ≡ end_or_never lock.status → IsNotBefore (latest lock.own) (end_of lock.status) → IsSoonest to locks (suc at) found
    → IsSoonest to locks at (with_lock at end found)
one_more to locks at lock end found k l is e b h = record {
  within = omega (arith, l);
  after = index_of (nat_le end found.end);
  last = last_more (nat_le end found.end) refl;
  few = few_more (nat_le end found.end);
  first = subst (λ (xs : List LockState). MatchDue locks (next_due to xs) (found_by to (with_lock at end found))) (sym left)
      (subst (λ n. MatchDue locks (next_due to (lock ∷ drop (suc at) locks)) (found_by to (with_lock at n found))) (sym e)
      (more_due locks to found at lock l (λ d. any locks at d l ∙ sym is) lock.status (next_due to (drop (suc at) locks)) refl b k h.first));
  least = subst (NoneEndsBefore (min (with_lock at end found).end (with_lock at end found).others)) (sym left) (least_more at end found lock (drop (suc at) locks) e h.least);
  others = subst (NoOtherEndsBefore (with_lock at end found).others ((with_lock at end found).at - at)) (sym left) (others_more at end found lock (drop (suc at) locks) e h.after h.least h.others);
}
  where
    left : drop at locks ≡ lock ∷ drop (suc at) locks
    left = drop-cons locks at lock l ∙ ap (λ (x : LockState). x ∷ drop (suc at) locks) (sym is)

    any : (xs : List LockState) (i : ℕ) (d : LockState) → i < length xs → get_or xs i d ≡ get_or xs i lock
    any [] i d l = absurd (omega (arith, l))
    any (x ∷ xs) zero d l = refl
    any (x ∷ xs) (suc i) d l = any xs i d (omega (arith, l))

    index_of : (b : Bool) → at ≤ (cond {A = Soonest} b (record { at = at; end = end; others = min found.others found.end }) (record { at = found.at; end = found.end; others = min found.others end })).at
    index_of true = omega arith
    index_of false = omega (arith, h.after)

    last_more : (b : Bool) → nat_le end found.end ≡ b → (cond {A = Soonest} b (record { at = at; end = end; others = min found.others found.end }) (record { at = found.at; end = found.end; others = min found.others end })).end ≤ never
    last_more true t = let l : end ≤ found.end = grind (arith, nat_tests) in omega (arith, l, h.last)
    last_more false t = h.last

    few_more : (b : Bool) → (cond {A = Soonest} b (record { at = at; end = end; others = min found.others found.end }) (record { at = found.at; end = found.end; others = min found.others end })).others ≤ never
    few_more true = omega (arith, h.few)
    few_more false = omega (arith, h.few)
