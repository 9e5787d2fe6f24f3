-- Expiries one after another.
use Rattle.std.proofs.Common.{◌≡◌, ◌≤◌, ◌<◌, ◌+◌, ◌-◌, ◌∙◌, Bool, true, false, cond, ℕ, zero, suc, List, [], ◌∷◌, length, get_or, set, nat_lt, Option, Some, None, Result, Ok, Err, refl, sym, ap, subst, leb-true, arith}
use Rattle.std.specs.Prelude.{nat_le}
use Rattle.std.proofs.lemmas.Bool.Decides.{nat_tests}
use Rattle.sleep_model.specs.declared.entry.Entry.{Entry}
use Rattle.sleep_model.specs.declared.machine.SourceCall.TheVariants as call
use Rattle.sleep_model.specs.Sources.{since}
use Rattle.wakeup_source.specs.SourceStates.{latest}
use Rattle.wake_locks.specs.declared.status.LockStatus.{LockStatus}
use Rattle.wake_locks.specs.declared.status.LockStatus.TheVariants.{Inactive, Endless, Until}
use Rattle.wake_locks.specs.Expiries.{IsAdvance, Due, Advanced, earlier_of, due_of, next_due, locks_after_expiry, after_next, stopped, onward, expiries}
use Rattle.wake_locks.specs.LockFields.{MatchDue}
use Rattle.wake_locks.specs.Locks.{LockState, lock_after_call, put, NoneDue}
use Rattle.wake_locks.specs.LockStatuses.{is_due}
use Rattle.wake_locks.specs.declared.answer.LockFault.{LockFault}
use Rattle.wake_locks.specs.declared.answer.LockFault.TheVariants.{Full, Mem}
use Rattle.wake_locks.specs.declared.answer.LockAnswer.{LockAnswer}
use Rattle.wake_locks.specs.Writes.{WriteEnded, IsFull}
use Rattle.wake_locks.specs.Locks.{AreBefore, AreSortedByName, entries_after_call}
use Rattle.wake_locks.proofs.Calls.{entries}
use Rattle.wake_locks.proofs.Placed.{put_there, put_before, at_place}

-- ---- the next one

-- the lock that comes next, and its index
pub record Next (to : ℕ) (locks : List LockState) (at end : ℕ) : Type 0 where
  pub due : Due
  pub is : next_due to locks ≡ Some due
  pub in_range : at < length locks
  pub lock_is : (d : LockState) → get_or locks at d ≡ due.lock
  pub end_is : end ≡ due.at
  pub stands : due.lock.status ≡ Until due.at
  pub after : latest due.lock.own ≤ due.at

matched_by : (to : ℕ) (locks : List LockState) (o : Option Due) (at end : ℕ) → next_due to locks ≡ o → MatchDue locks o (Some (at, end)) → Next to locks at end
matched_by to locks None at end e m = absurd m
matched_by to locks (Some due) at end e m = record { due = due; is = e; in_range = m.0; lock_is = m.1; end_is = m.2; stands = m.3; after = m.4 }

pub matched : (to : ℕ) (locks : List LockState) (at end : ℕ) → MatchDue locks (next_due to locks) (Some (at, end)) → Next to locks at end
matched to locks at end m = matched_by to locks (next_due to locks) at end refl m

pub unmatched : (locks : List LockState) (o : Option Due) → MatchDue locks o None → o ≡ None
unmatched locks None m = refl
unmatched locks (Some due) m = absurd m

-- it is due at its end
pub due_there : (to : ℕ) (locks : List LockState) (at end : ℕ) (d : LockState) → Next to locks at end → is_due end (get_or locks at d).status ≡ true
due_there to locks at end d n =
    let same : nat_le n.due.at end ≡ true = grind (arith, nat_tests, n.end_is) in
    rw (n.lock_is d, n.stands) same

pub after_there : (to : ℕ) (locks : List LockState) (at end : ℕ) (d : LockState) → Next to locks at end → latest (get_or locks at d).own ≤ end
after_there to locks at end d n = rw (n.lock_is d) (omega (arith, n.after, n.end_is))

-- ---- one after another

-- if none is due nothing more is made
pub none_more : (places to n : ℕ) (locks : List LockState) → next_due to locks ≡ None → expiries places to n locks ≡ stopped locks None
none_more places to zero locks e = refl
none_more places to (suc n) locks e = rw e refl

-- a full source stops them
pub full_stops : (places to n : ℕ) (locks : List LockState) (due : Due) → next_due to locks ≡ Some due → places < length due.lock.own + 4 → expiries places to (suc n) locks ≡ stopped locks (Some due.lock)
full_stops places to n locks due e l =
    let full : nat_lt places (length due.lock.own + 4) ≡ true = grind (arith, nat_tests) in
    rw (e, full) refl

-- an expiry is made
pub one_made : (places to n : ℕ) (locks : List LockState) (due : Due) → next_due to locks ≡ Some due → ¬ (places < length due.lock.own + 4) → expiries places to (suc n) locks ≡ expiries places to n (locks_after_expiry due locks)
one_made places to n locks due e l =
    let room : nat_lt places (length due.lock.own + 4) ≡ false = grind (arith, nat_tests) in
    rw (e, room) refl

onward_on : (places : ℕ) (o : Option Due) (start mid : List LockState) (later more rest : Advanced) → onward places o start later ≡ stopped mid None → (o ≡ None → start ≡ mid → stopped start None ≡ rest) → (later ≡ stopped mid None → more ≡ rest) → onward places o start more ≡ rest
onward_on places None start mid later more rest h none some = none refl (ap (λ (a : Advanced). a.locks) h)
onward_on places (Some due) start mid later more rest h none some = go (nat_lt places (length due.lock.own + 4)) h
  where
    go : (b : Bool) → cond b (stopped start (Some due.lock)) later ≡ stopped mid None → cond b (stopped start (Some due.lock)) more ≡ rest
    go true h = absurd (let no : Some due.lock ≡ None = ap (λ (a : Advanced). a.full) h in cc)
    go false h = some h

-- expiries go on from where they are
pub go_on : (places to n k m : ℕ) (start mid : List LockState) → m ≡ n + k → expiries places to n start ≡ stopped mid None → expiries places to m start ≡ expiries places to k mid
go_on places to zero k m start mid e h =
    let same : start ≡ mid = ap (λ (a : Advanced). a.locks) h in
    let many : m ≡ k = omega (arith, e) in
    ap (λ n. expiries places to n start) many ∙ ap (expiries places to k) same
go_on places to (suc n) k zero start mid e h = absurd (omega (arith, e))
go_on places to (suc n) k (suc m) start mid e h =
    onward_on places (next_due to start) start mid (expiries places to n (after_next (next_due to start) start)) (expiries places to m (after_next (next_due to start) start)) (expiries places to k mid) h
    (λ o same. ap (λ (xs : List LockState). stopped xs None) same ∙ sym (none_more places to k mid (subst (λ (xs : List LockState). next_due to xs ≡ None) same o)))
    (λ later. go_on places to n k m (after_next (next_due to start) start) mid (omega (arith, e)) later)

-- ---- how many are due

-- how many locks are due by that moment
abbrev pub due_count : ℕ → List LockState → ℕ
due_count to [] = 0
due_count to (lock ∷ locks) = cond (is_due to lock.status) 1 0 + due_count to locks

pub count_few : (to : ℕ) (locks : List LockState) → due_count to locks ≤ length locks
count_few to [] = omega arith
count_few to (x ∷ xs) = go (is_due to x.status) (count_few to xs)
  where
    go : (b : Bool) → due_count to xs ≤ length xs → cond b 1 0 + due_count to xs ≤ suc (length xs)
    go true h = omega (arith, h)
    go false h = omega (arith, h)

-- an expiry is one that was due and is no longer
pub count_less : (to : ℕ) (locks : List LockState) (at : ℕ) (d new : LockState) → at < length locks → is_due to (get_or locks at d).status ≡ true → is_due to new.status ≡ false → due_count to (set locks at new) + 1 ≡ due_count to locks
count_less to [] at d new l e f = absurd (omega arith)
count_less to (x ∷ xs) zero d new l e f = rw (e, f) (omega arith)
count_less to (x ∷ xs) (suc i) d new l e f = omega (arith, count_less to xs i d new (omega (arith, l)) e f)

-- if none is counted, none is due
pub none_counted : (to : ℕ) (locks : List LockState) → due_count to locks ≡ 0 → NoneDue to locks
none_counted to [] e = tt
none_counted to (x ∷ xs) e = go (is_due to x.status) refl e (none_counted to xs)
  where
    go : (b : Bool) → is_due to x.status ≡ b → cond b 1 0 + due_count to xs ≡ 0 → (due_count to xs ≡ 0 → NoneDue to xs) → NoneDue to (x ∷ xs)
    go true f e more = absurd (omega (arith, e))
    go false f e more = (f, more (omega (arith, e)))

first_some : (lock : LockState) (at : ℕ) (o : Option Due) → earlier_of lock at o ≡ None → ⊥
first_some lock at None e = cc
first_some lock at (Some due) e = go (nat_le at due.at) e
  where
    go : (b : Bool) → cond b (Some (record { lock = lock; at = at })) (Some due) ≡ None → ⊥
    go true e = cc
    go false e = cc

due_of_none : (to : ℕ) (lock : LockState) (s : LockStatus) (o : Option Due) → due_of to lock s o ≡ None → (is_due to s ≡ false) × (o ≡ None)
due_of_none to lock Inactive o e = (refl, e)
due_of_none to lock Endless o e = (refl, e)
due_of_none to lock (Until end) o e = go (nat_le end to) e
  where
    go : (b : Bool) → cond b (earlier_of lock end o) o ≡ None → (b ≡ false) × (o ≡ None)
    go true e = absurd (first_some lock end o e)
    go false e = (refl, e)

-- if none comes next, none is due
pub none_due : (to : ℕ) (locks : List LockState) → next_due to locks ≡ None → NoneDue to locks
none_due to [] e = tt
none_due to (x ∷ xs) e =
    let both = due_of_none to x x.status (next_due to xs) e in
    (both.0, none_due to xs both.1)

-- if none is due, none comes next
pub none_next : (to : ℕ) (locks : List LockState) → NoneDue to locks → next_due to locks ≡ None
none_next to [] h = refl
none_next to (x ∷ xs) h = go x.status h.0 (none_next to xs h.1)
  where
    go : (s : LockStatus) → is_due to s ≡ false → next_due to xs ≡ None → due_of to x s (next_due to xs) ≡ None
    go Inactive f e = e
    go Endless f e = e
    go (Until end) f e = rw f e

-- what comes next is due
pub next_is_due : (to : ℕ) (locks : List LockState) (due : Due) → next_due to locks ≡ Some due → due.at ≤ to
next_is_due to [] due e = absurd (let no : None ≡ Some due = e in cc)
next_is_due to (x ∷ xs) due e = go x.status (next_due to xs) e (next_is_due to xs due)
  where
    choose : (b : Bool) (end : ℕ) (later : Due) → end ≤ to → cond b (Some (record { lock = x; at = end })) (Some later) ≡ Some due → (Some later ≡ Some due → due.at ≤ to) → due.at ≤ to
    choose true end later l e more = let same : record { lock = x; at = end } ≡ due = cc in omega (arith, l, ap (λ (d : Due). d.at) same)
    choose false end later l e more = more e

    fst : (end : ℕ) (o : Option Due) → end ≤ to → earlier_of x end o ≡ Some due → (o ≡ Some due → due.at ≤ to) → due.at ≤ to
    fst end None l e more = let same : record { lock = x; at = end } ≡ due = cc in omega (arith, l, ap (λ (d : Due). d.at) same)
    fst end (Some later) l e more = choose (nat_le end later.at) end later l e more

    by_end : (b : Bool) (end : ℕ) (o : Option Due) → nat_le end to ≡ b → cond b (earlier_of x end o) o ≡ Some due → (o ≡ Some due → due.at ≤ to) → due.at ≤ to
    by_end true end o n e more = fst end o (leb-true end to n) e more
    by_end false end o n e more = more e

    go : (s : LockStatus) (o : Option Due) → due_of to x s o ≡ Some due → (o ≡ Some due → due.at ≤ to) → due.at ≤ to
    go Inactive o e more = more e
    go Endless o e more = more e
    go (Until end) o e more = by_end (nat_le end to) end o refl e more

-- ---- advancing

expired_by : (now : ℕ) (own : List Entry) (o : Option ℕ) → latest (entries call.Expire now own o) ≡ now
expired_by now own None = refl
expired_by now own (Some b) = refl

expired_at : (now : ℕ) (own : List Entry) → latest (entries_after_call call.Expire now own) ≡ now
expired_at now own = expired_by now own (since own)

module _ (places to at end : ℕ) (d : LockState) (start locks later : List LockState) (n : Next to locks at end) (count : ℕ) (so_far : expiries places to count start ≡ stopped locks None) where
  -- a fault of an expiry
  pub failed : (fault : LockFault) → count < length start → WriteEnded places (Ok (record { lock = get_or locks at d; made = call.Expire })) end locks later (Err fault) → IsAdvance places to start later (Err fault)
  failed (Full name) l w = (
    n.due.lock,
    w.1.0 ∙ ap (λ (x : LockState). x.name) (n.lock_is d),
    go_on places to count (suc (length start - count - 1)) (length start) start locks (omega (arith, l)) so_far
        ∙ full_stops places to (length start - count - 1) locks n.due n.is (subst (λ (x : LockState). IsFull places x) (n.lock_is d) w.1.1)
        ∙ ap (λ (xs : List LockState). stopped xs (Some n.due.lock)) (sym w.0),
  )
  failed Mem l w = (count, so_far ∙ ap (λ (xs : List LockState). stopped xs None) (sym w.0))

  -- an expiry that was made
  module _ (a : LockAnswer) (w : WriteEnded places (Ok (record { lock = get_or locks at d; made = call.Expire })) end locks later (Ok a)) where
    pub later_is : later ≡ locks_after_expiry n.due locks
    later_is = w.1 ∙ ap (λ (x : LockState). put (lock_after_call call.Expire end x) locks) (n.lock_is d) ∙ ap (λ e. put (lock_after_call call.Expire e n.due.lock) locks) n.end_is

    pub made_so_far : expiries places to (count + 1) start ≡ stopped later None
    made_so_far =
        go_on places to count (suc zero) (count + 1) start locks refl so_far
        ∙ one_made places to zero locks n.due n.is (λ f. w.2 (subst (λ (x : LockState). IsFull places x) (sym (n.lock_is d)) f))
        ∙ ap (λ (xs : List LockState). stopped xs None) (sym later_is)

    pub made_before : AreBefore to locks → AreBefore to later
    made_before h =
        subst (AreBefore to) (sym later_is)
        (put_before to (lock_after_call call.Expire n.due.at n.due.lock) locks (omega (arith, expired_at n.due.at n.due.lock.own, next_is_due to locks n.due n.is)) h)

    pub made_there : AreSortedByName locks → later ≡ set locks at (lock_after_call call.Expire end (get_or locks at d))
    made_there h = w.1 ∙ put_there (lock_after_call call.Expire end (get_or locks at d)) locks at (at_place locks h at d n.in_range)

    pub made_fewer : AreSortedByName locks → due_count to later + 1 ≡ due_count to locks
    made_fewer h =
        let is = made_there h in
        let was : is_due to (get_or locks at d).status ≡ true = rw (n.lock_is d, n.stands) (grind (arith, nat_tests, next_is_due to locks n.due n.is)) in
        subst (λ (xs : List LockState). due_count to xs + 1 ≡ due_count to locks) (sym is) (count_less to locks at d (lock_after_call call.Expire end (get_or locks at d)) n.in_range was refl)

-- a fault leaves all as before
pub failed_same : (places at end : ℕ) (d : LockState) (locks later : List LockState) (fault : LockFault) → WriteEnded places (Ok (record { lock = get_or locks at d; made = call.Expire })) end locks later (Err fault) → later ≡ locks
failed_same places at end d locks later (Full name) w = w.0
failed_same places at end d locks later Mem w = w.0

-- what a call there left, if it ended with a fault
pub at_failed : (places at end : ℕ) (d : LockState) (locks later : List LockState) (made : Result LockAnswer LockFault) (fault : LockFault) → made ≡ Err fault → WriteEnded places (Ok (record { lock = get_or locks at d; made = call.Expire })) end locks later made → WriteEnded places (Ok (record { lock = get_or locks at d; made = call.Expire })) end locks later (Err fault)
at_failed places at end d locks later made fault is w = subst (WriteEnded places (Ok (record { lock = get_or locks at d; made = call.Expire })) end locks later) is w
