-- What a write leaves, from the call that it makes.
use Rattle.std.proofs.Common.{◌≡◌, ◌≢◌, ◌≤◌, ◌<◌, ◌+◌, ◌/◌, ◌↔◌, ◌∙◌, ◌==◌, Bool, true, false, ℕ, zero, suc, List, [], ◌∷◌, length, get_or, set, nat_lt, if◌then◌else◌, Option, Some, None, Result, Ok, Err, OnOk, OnErr, refl, sym, ap, subst, arith}
use Rattle.std.proofs.lemmas.Bool.Decides.{nat_tests}
use Rattle.std.specs.Prelude.{option_map, position, take, drop}
use Rattle.sleep_model.specs.declared.machine.SourceCall.{SourceCall}
use Rattle.sleep_model.specs.declared.machine.SourceCall.TheVariants as call
use Rattle.wake_locks.specs.declared.answer.LockAnswer.{LockAnswer}
use Rattle.wake_locks.specs.declared.answer.LockAnswer.TheVariants.{Done, BadText, NoSpace}
use Rattle.wake_locks.specs.declared.answer.LockFault.{LockFault}
use Rattle.wake_locks.specs.declared.answer.LockFault.TheVariants.{Full, Mem}
use Rattle.wake_locks.specs.declared.status.LockStatus.{LockStatus}
use Rattle.wake_locks.specs.LockFields.{IsLockAt, IsGapFor, IsMeant}
use Rattle.wake_locks.specs.Locks.{LockState, new_lock, lock_after_call, put, AreSortedByName}
use Rattle.sleep_model.specs.NameBytes.{is_name}
use Rattle.wake_locks.specs.Texts.{timed, timeout, asked_in, line_of, lock_text, unlock_text}
use Rattle.wake_locks.specs.Writes.{IsFull, WriteEnded, answered, on_lock, locks_by, asked_lock, off_lock, unlocks_by, asked_unlock}
use Rattle.wake_locks.proofs.Placed.{find_there, find_gap, put_there, put_in_order, at_place}

-- what a lock's call says
pub record Called (places : ℕ) (made : SourceCall) (now : ℕ) (old new : LockState) (r : Result (Unit {0}) LockFault) : Type 0 where
  pub done : OnOk r (new ≡ lock_after_call made now old)
  pub full : (name : List ℕ) → (r ≡ Err (Full name)) ↔ ((name ≡ old.name) × IsFull places old)
  pub err : OnErr r (new ≡ old)

pub set_same : (xs : List LockState) (i : ℕ) (d : LockState) → i < length xs → set xs i (get_or xs i d) ≡ xs
set_same [] i d l = absurd (omega arith)
set_same (x ∷ xs) zero d l = refl
set_same (x ∷ xs) (suc i) d l = ap (λ (ys : List LockState). x ∷ ys) (set_same xs i d (omega (arith, l)))

-- out of memory is not reported as a full source
mem_is_not_full : (r : Result (Unit {0}) LockFault) (name : List ℕ) → r ≡ Err Mem → r ≡ Err (Full name) → ⊥
mem_is_not_full r name e f = cc

-- a call on the lock there
pub at_ended : (places : ℕ) (made : SourceCall) (now at : ℕ) (locks : List LockState) (new d : LockState) (r : Result (Unit {0}) LockFault) → AreSortedByName locks → at < length locks → Called places made now (get_or locks at d) new r
    → WriteEnded places (Ok (record { lock = get_or locks at d; made = made })) now locks (set locks at new) (answered r)
at_ended places made now at locks new d (Ok u) h l c = (
  refl,
  ap (set locks at) c.done ∙ sym (put_there (lock_after_call made now (get_or locks at d)) locks at (at_place locks h at d l)),
  λ f. absurd (let e : Ok u ≡ Err (Full (get_or locks at d).name) = (c.full (get_or locks at d).name).1 (refl, f) in cc),
)
at_ended places made now at locks new d (Err (Full name)) h l c = (ap (set locks at) c.err ∙ set_same locks at d l, (c.full name).0 refl)
at_ended places made now at locks new d (Err Mem) h l c = (
  ap (set locks at) c.err ∙ set_same locks at d l,
  λ f. mem_is_not_full (Err Mem) (get_or locks at d).name refl ((c.full (get_or locks at d).name).1 (refl, f)),
)

-- which keeps the order
pub at_preserved : (places : ℕ) (made : SourceCall) (now at : ℕ) (locks : List LockState) (new d : LockState) (r : Result (Unit {0}) LockFault) → AreSortedByName locks → at < length locks → Called places made now (get_or locks at d) new r
    → AreSortedByName (set locks at new)
at_preserved places made now at locks new d (Ok u) h l c =
    let e : set locks at new ≡ put (lock_after_call made now (get_or locks at d)) locks = ap (set locks at) c.done ∙ sym (put_there (lock_after_call made now (get_or locks at d)) locks at (at_place locks h at d l)) in
    subst AreSortedByName (sym e) (put_in_order (lock_after_call made now (get_or locks at d)) locks h)
at_preserved places made now at locks new d (Err fault) h l c = subst AreSortedByName (sym (ap (set locks at) c.err ∙ set_same locks at d l)) h

few_is : (n : ℕ) → n < 100 → nat_lt n 100 ≡ true
few_is n l = grind (arith, nat_tests)

many_is : (n : ℕ) → 100 ≤ n → nat_lt n 100 ≡ false
many_is n l = grind (arith, nat_tests)

-- a new lock, if as many are known as may be
pub none_ended : (places : ℕ) (name : List ℕ) (made : SourceCall) (now : ℕ) (locks : List LockState) → 100 ≤ length locks → WriteEnded places (on_lock name made (length locks) None) now locks locks (Ok NoSpace)
none_ended places name made now locks l = rw (many_is (length locks) l) (refl, refl, tt)

-- a new lock whose call was made, and that was put there or not
pub new_ended : (places : ℕ) (name : List ℕ) (made : SourceCall) (now : ℕ) (locks later : List LockState) (new : LockState) (r : Result LockAnswer LockFault) → length locks < 100 → Called places made now (new_lock name) new (Ok tt)
    → OnOk r (later ≡ put new locks) → OnErr r (later ≡ locks) → (r ≢ Err Mem → r ≡ Ok Done) → WriteEnded places (on_lock name made (length locks) None) now locks later r
new_ended places name made now locks later new (Ok a) l c put_is same answer =
    rw (few_is (length locks) l) (
      (let e : Ok a ≡ Ok Done = answer (λ (e : Ok a ≡ Err Mem). cc) in cc),
      put_is ∙ ap (λ (x : LockState). put x locks) c.done,
      λ f. absurd (let e : Ok tt ≡ Err (Full name) = (c.full name).1 (refl, f) in cc),
    )
new_ended places name made now locks later new (Err (Full n)) l c put_is same answer =
    absurd (let e : Err (Full n) ≡ Ok Done = answer (λ (e : Err (Full n) ≡ Err Mem). cc) in cc)
new_ended places name made now locks later new (Err Mem) l c put_is same answer =
    rw (few_is (length locks) l) (same, λ f. absurd (let e : Ok tt ≡ Err (Full name) = (c.full name).1 (refl, f) in cc))

-- a new lock whose call was not made
pub new_failed : (places : ℕ) (name : List ℕ) (made : SourceCall) (now : ℕ) (locks : List LockState) (new : LockState) (fault : LockFault) → length locks < 100 → Called places made now (new_lock name) new (Err fault)
    → WriteEnded places (on_lock name made (length locks) None) now locks locks (Err fault)
new_failed places name made now locks new (Full n) l c = rw (few_is (length locks) l) (refl, (c.full n).0 refl)
new_failed places name made now locks new Mem l c =
    rw (few_is (length locks) l) (refl, λ f. mem_is_not_full (Err Mem) name refl ((c.full name).1 (refl, f)))

-- ---- whole writes

-- a call that a lock may have in any status
timed_meant : (ns now : ℕ) (s : LockStatus) → IsMeant (timed ns) now s
timed_meant ns now s = go (ns == 0) refl
  where
    go : (b : Bool) → (ns == 0) ≡ b → IsMeant (if b then call.Awake else call.Event ((ns + 999999) / 1000000) false) now s
    go true e = tt
    go false e = (grind (arith, nat_tests), refl)

timeout_meant : (o : Option ℕ) (made : SourceCall) (now : ℕ) (s : LockStatus) → option_map timed o ≡ Some made → IsMeant made now s
timeout_meant None made now s e = absurd (let no : None ≡ Some made = e in cc)
timeout_meant (Some ns) made now s e = let same : timed ns ≡ made = cc in subst (λ m. IsMeant m now s) same (timed_meant ns now s)

named_call : (is : Bool) (name : List ℕ) (o : Option SourceCall) (p : List ℕ × SourceCall) → (if is then option_map (λ c. (name, c)) o else None) ≡ Some p → o ≡ Some p.1
named_call false name o p e = absurd (let no : None ≡ Some p = e in cc)
named_call true name None p e = absurd (let no : None ≡ Some p = e in cc)
named_call true name (Some made) p e = let same : (name, made) ≡ p = cc in ap (λ (q : List ℕ × SourceCall). Some q.1) same

asked_meant : (o : Option ℕ) (line : List ℕ) (p : List ℕ × SourceCall) (now : ℕ) (s : LockStatus) → asked_in o line ≡ Some p → IsMeant p.1 now s
asked_meant None line p now s e =
    let is = named_call (is_name line) line (Some call.Awake) p e in
    let same : call.Awake ≡ p.1 = cc in
    subst (λ m. IsMeant m now s) same tt
asked_meant (Some at) line p now s e = timeout_meant _ p.1 now s (named_call (is_name (take at line)) (take at line) (timeout (drop at line)) p e)

-- what a text for wake_lock asks for is meant
pub lock_meant : (text : List ℕ) (p : List ℕ × SourceCall) (now : ℕ) (s : LockStatus) → lock_text text ≡ Some p → IsMeant p.1 now s
lock_meant text p now s e = asked_meant (position (λ b. b == 32) (line_of text)) (line_of text) p now s e

-- a lock of a known name
pub lock_known : (text : List ℕ) (p : List ℕ × SourceCall) (locks : List LockState) (at : ℕ) (d : LockState) → lock_text text ≡ Some p → IsLockAt p.0 locks at
    → asked_lock text locks ≡ Ok (record { lock = get_or locks at d; made = p.1 })
lock_known text p locks at d e h = ap (λ (o : Option (List ℕ × SourceCall)). locks_by o locks) e ∙ ap (on_lock p.0 p.1 (length locks)) (find_there p.0 locks at d h)

-- a lock of a new name
pub lock_new : (text : List ℕ) (p : List ℕ × SourceCall) (locks : List LockState) (at : ℕ) → lock_text text ≡ Some p → IsGapFor p.0 locks at
    → asked_lock text locks ≡ on_lock p.0 p.1 (length locks) None
lock_new text p locks at e h = ap (λ (o : Option (List ℕ × SourceCall)). locks_by o locks) e ∙ ap (on_lock p.0 p.1 (length locks)) (find_gap p.0 locks at h)

-- an unlock of a known name
pub unlock_known : (text name : List ℕ) (locks : List LockState) (at : ℕ) (d : LockState) → unlock_text text ≡ Some name → IsLockAt name locks at
    → asked_unlock text locks ≡ Ok (record { lock = get_or locks at d; made = call.Relax })
unlock_known text name locks at d e h = ap (λ (o : Option (List ℕ)). unlocks_by o locks) e ∙ ap off_lock (find_there name locks at d h)

-- of a name that is not known
pub unlock_new : (text name : List ℕ) (locks : List LockState) (at : ℕ) → unlock_text text ≡ Some name → IsGapFor name locks at → asked_unlock text locks ≡ Err BadText
unlock_new text name locks at e h = ap (λ (o : Option (List ℕ)). unlocks_by o locks) e ∙ ap off_lock (find_gap name locks at h)
