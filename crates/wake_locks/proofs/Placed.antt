-- Locks in the order of their names: what is found there, and what is put there.
use Rattle.std.proofs.Common.{◌≡◌, ◌≤◌, ◌<◌, ◌+◌, ◌∙◌, ℕ, zero, suc, false, List, [], ◌∷◌, length, get_or, set, Some, None, inl, inr, refl, sym, ap, subst, arith}
use Rattle.std.specs.List.{insert}
use Rattle.std.specs.Ordering.{ordering_reverse}
use Rattle.std.specs.declared.cmp.Ordering.{Ordering}
use Rattle.std.specs.declared.cmp.Ordering.TheVariants.{Less, Equal, Greater}
use Rattle.std.proofs.lemmas.Cmp.{nat_list_cmp_total, alike_right, tied_itself}
use Rattle.std.proofs.lemmas.Bool.{cases_lt}
use Rattle.wakeup_source.specs.SourceStates.{latest}
use Rattle.wake_locks.specs.Locks.{LockState, by_name, find, put, inserted, PrecedesEach, AreSortedByName, AreBefore, NoneDue}
use Rattle.wake_locks.specs.LockFields.{IsLockAt, IsGapFor, AreAllBefore}
use Rattle.wake_locks.specs.LockStatuses.{is_due}

-- ---- by indices

tail_before : (name : List ℕ) (x : LockState) (xs : List LockState) (i : ℕ) → AreAllBefore name (x ∷ xs) (suc i) → AreAllBefore name xs i
tail_before name x xs i h j d l = h (suc j) d (omega arith)

tail_at : (name : List ℕ) (x : LockState) (xs : List LockState) (i : ℕ) → IsLockAt name (x ∷ xs) (suc i) → IsLockAt name xs i
tail_at name x xs i h = record { in_range = omega (arith, h.in_range); before = tail_before name x xs i h.before; here = λ d. h.here d }

tail_gap : (name : List ℕ) (x : LockState) (xs : List LockState) (i : ℕ) → IsGapFor name (x ∷ xs) (suc i) → IsGapFor name xs i
tail_gap name x xs i h = record { in_range = omega (arith, h.in_range); before = tail_before name x xs i h.before; after = λ d l. h.after d (omega (arith, l)) }

-- the lock there is found
pub find_there : (name : List ℕ) (locks : List LockState) (at : ℕ) (d : LockState) → IsLockAt name locks at → find name locks ≡ Some (get_or locks at d)
find_there name [] at d h = absurd (omega (arith, h.in_range))
find_there name (x ∷ xs) zero d h = rw (h.here x) refl
find_there name (x ∷ xs) (suc i) d h = rw (h.before 0 x (omega arith)) (find_there name xs i d (tail_at name x xs i h))

-- a lock of its name goes to its index
pub put_there : (new : LockState) (locks : List LockState) (at : ℕ) → IsLockAt new.name locks at → put new locks ≡ set locks at new
put_there new [] at h = absurd (omega (arith, h.in_range))
put_there new (x ∷ xs) zero h = rw (h.here x) refl
put_there new (x ∷ xs) (suc i) h = rw (h.before 0 x (omega arith)) (ap (λ (ys : List LockState). x ∷ ys) (put_there new xs i (tail_at new.name x xs i h)))

-- in a gap none is found
pub find_gap : (name : List ℕ) (locks : List LockState) (at : ℕ) → IsGapFor name locks at → find name locks ≡ None
find_gap name [] at h = refl
find_gap name (x ∷ xs) zero h = rw (h.after x (omega arith)) refl
find_gap name (x ∷ xs) (suc i) h = rw (h.before 0 x (omega arith)) (find_gap name xs i (tail_gap name x xs i h))

-- a lock goes into its gap
pub put_gap : (new : LockState) (locks : List LockState) (at : ℕ) → IsGapFor new.name locks at → put new locks ≡ insert locks at new
put_gap new [] zero h = refl
put_gap new [] (suc i) h = absurd (omega (arith, h.in_range))
put_gap new (x ∷ xs) zero h = rw (h.after x (omega arith)) refl
put_gap new (x ∷ xs) (suc i) h = rw (h.before 0 x (omega arith)) (ap (λ (ys : List LockState). x ∷ ys) (put_gap new xs i (tail_gap new.name x xs i h)))

-- ---- in order

after_at : (name : List ℕ) (locks : List LockState) → PrecedesEach name locks → (j : ℕ) (d : LockState) → j < length locks → by_name name (get_or locks j d).name ≡ Less
after_at name [] h j d l = absurd (omega arith)
after_at name (x ∷ xs) h zero d l = h.0
after_at name (x ∷ xs) h (suc j) d l = after_at name xs h.1 j d (omega (arith, l))

ordered : (locks : List LockState) → AreSortedByName locks → (i j : ℕ) (d : LockState) → i < j → j < length locks → by_name (get_or locks i d).name (get_or locks j d).name ≡ Less
ordered [] h i j d l k = absurd (omega arith)
ordered (x ∷ xs) h zero zero d l k = absurd (omega arith)
ordered (x ∷ xs) h zero (suc j) d l k = after_at x.name xs h.0 j d (omega (arith, k))
ordered (x ∷ xs) h (suc i) zero d l k = absurd (omega arith)
ordered (x ∷ xs) h (suc i) (suc j) d l k = ordered xs h.1 i j d (omega (arith, l)) (omega (arith, k))

pub any_of : (xs : List LockState) (i : ℕ) (d e : LockState) → i < length xs → get_or xs i d ≡ get_or xs i e
any_of [] i d e l = absurd (omega arith)
any_of (y ∷ ys) zero d e l = refl
any_of (y ∷ ys) (suc i) d e l = any_of ys i d e (omega (arith, l))

-- each lock is at its index
pub at_place : (locks : List LockState) → AreSortedByName locks → (at : ℕ) (d : LockState) → at < length locks → IsLockAt (get_or locks at d).name locks at
at_place locks h at d l = record {
  in_range = l;
  before = λ j e k. ap (λ (x : LockState). by_name x.name (get_or locks at d).name) (any_of locks j e d (omega (arith, k, l))) ∙ ordered locks h j at d k l;
  here = λ e. ap (λ (x : LockState). by_name x.name (get_or locks at d).name) (any_of locks at e d l) ∙ tied_itself nat_list_cmp_total (get_or locks at d).name;
}

-- a lock before one that comes before the name does so too
pub low_more : (name : List ℕ) (locks : List LockState) (at : ℕ) (e : LockState) → AreSortedByName locks → at < length locks → by_name (get_or locks at e).name name ≡ Less → AreAllBefore name locks (at + 1)
low_more name locks at e h l less j d k = elim (cases_lt j at) [
  | inl below ↦ nat_list_cmp_total.trans (get_or locks j d).name (get_or locks at d).name name (ordered locks h j at d below l) (ap (λ (x : LockState). by_name x.name name) (any_of locks at d e l) ∙ less)
  | inr above ↦ subst (λ i. by_name (get_or locks i d).name name ≡ Less) {x = at} (omega arith) (ap (λ (x : LockState). by_name x.name name) (any_of locks at d e l) ∙ less)
]

-- the names of the locks from that index on come after this one
abbrev pub ArePreceded : List ℕ → List LockState → ℕ → Type 0
ArePreceded name locks at = (j : ℕ) (d : LockState) → at ≤ j → j < length locks → by_name (get_or locks j d).name name ≡ Greater

-- a lock after one that comes after the name does so too
pub high_more : (name : List ℕ) (locks : List LockState) (at : ℕ) (e : LockState) → AreSortedByName locks → at < length locks → by_name (get_or locks at e).name name ≡ Greater → ArePreceded name locks at
high_more name locks at e h l more j d k m = elim (cases_lt at j) [
  | inl below ↦ nat_list_cmp_total.antisymm (get_or locks j d).name name ∙ ap ordering_reverse (nat_list_cmp_total.trans name (get_or locks at d).name (get_or locks j d).name
      (nat_list_cmp_total.antisymm name (get_or locks at d).name ∙ ap ordering_reverse (ap (λ (x : LockState). by_name x.name name) (any_of locks at d e l) ∙ more)) (ordered locks h at j d below m))
  | inr above ↦ subst (λ i. by_name (get_or locks i d).name name ≡ Greater) {x = at} (omega arith) (ap (λ (x : LockState). by_name x.name name) (any_of locks at d e l) ∙ more)
]

-- a lock of the name is at its index
pub found_at : (name : List ℕ) (locks : List LockState) (at : ℕ) (e : LockState) → AreSortedByName locks → at < length locks → by_name (get_or locks at e).name name ≡ Equal → IsLockAt name locks at
found_at name locks at e h l equal = record {
  in_range = l;
  before = λ j d k. sym (alike_right nat_list_cmp_total (get_or locks at d).name name (get_or locks j d).name (ap (λ (x : LockState). by_name x.name name) (any_of locks at d e l) ∙ equal)) ∙ ordered locks h j at d k l;
  here = λ d. ap (λ (x : LockState). by_name x.name name) (any_of locks at d e l) ∙ equal;
}

-- ---- what `put` preserves

after_same : (n m : List ℕ) (locks : List LockState) → by_name n m ≡ Equal → PrecedesEach n locks → PrecedesEach m locks
after_same n m [] e h = tt
after_same n m (x ∷ xs) e h = (sym (nat_list_cmp_total.congr n m x.name e) ∙ h.0, after_same n m xs e h.1)

after_more : (n m : List ℕ) (locks : List LockState) → by_name n m ≡ Less → PrecedesEach m locks → PrecedesEach n locks
after_more n m [] e h = tt
after_more n m (x ∷ xs) e h = (nat_list_cmp_total.trans n m x.name e h.0, after_more n m xs e h.1)

put_after : (name : List ℕ) (new : LockState) (locks : List LockState) → by_name name new.name ≡ Less → PrecedesEach name locks → PrecedesEach name (put new locks)
put_after name new [] e h = (e, tt)
put_after name new (x ∷ xs) e h = go (by_name x.name new.name) (put new xs) (put_after name new xs e h.1)
  where
    go : (o : Ordering) (after : List LockState) → PrecedesEach name after → PrecedesEach name (inserted o new x xs after)
    go Less after k = (h.0, k)
    go Equal after k = (e, h.1)
    go Greater after k = (e, h)

-- the order
pub put_in_order : (new : LockState) (locks : List LockState) → AreSortedByName locks → AreSortedByName (put new locks)
put_in_order new [] h = (tt, tt)
put_in_order new (x ∷ xs) h = go (by_name x.name new.name) refl (put_in_order new xs h.1)
  where
    go : (o : Ordering) → by_name x.name new.name ≡ o → AreSortedByName (put new xs) → AreSortedByName (inserted o new x xs (put new xs))
    go Less e k = (put_after x.name new xs e h.0, k)
    go Equal e k = (after_same x.name new.name xs e h.0, h.1)
    go Greater e k =
        let less : by_name new.name x.name ≡ Less = nat_list_cmp_total.antisymm new.name x.name ∙ ap ordering_reverse e in
        ((less, after_more new.name x.name xs less h.0), h)

-- that no entry is later
pub put_before : (now : ℕ) (new : LockState) (locks : List LockState) → latest new.own ≤ now → AreBefore now locks → AreBefore now (put new locks)
put_before now new [] e h = (e, tt)
put_before now new (x ∷ xs) e h = go (by_name x.name new.name) (put new xs) (put_before now new xs e h.1)
  where
    go : (o : Ordering) (after : List LockState) → AreBefore now after → AreBefore now (inserted o new x xs after)
    go Less after k = (h.0, k)
    go Equal after k = (e, h.1)
    go Greater after k = (e, h)

-- that none is due
pub put_none_due : (now : ℕ) (new : LockState) (locks : List LockState) → is_due now new.status ≡ false → NoneDue now locks → NoneDue now (put new locks)
put_none_due now new [] e h = (e, tt)
put_none_due now new (x ∷ xs) e h = go (by_name x.name new.name) (put new xs) (put_none_due now new xs e h.1)
  where
    go : (o : Ordering) (after : List LockState) → NoneDue now after → NoneDue now (inserted o new x xs after)
    go Less after k = (h.0, k)
    go Equal after k = (e, h.1)
    go Greater after k = (e, h)

-- that a lock's entries are not later
pub before_at : (now : ℕ) (locks : List LockState) → AreBefore now locks → (at : ℕ) (d : LockState) → at < length locks → latest (get_or locks at d).own ≤ now
before_at now [] h at d l = absurd (omega arith)
before_at now (x ∷ xs) h zero d l = h.0
before_at now (x ∷ xs) h (suc i) d l = before_at now xs h.1 i d (omega (arith, l))

-- what is not later than a moment is not later than a later one
pub before_later : (now to : ℕ) (locks : List LockState) → now ≤ to → AreBefore now locks → AreBefore to locks
before_later now to [] l h = tt
before_later now to (lock ∷ locks) l h = (omega (arith, h.0, l), before_later now to locks l h.1)
