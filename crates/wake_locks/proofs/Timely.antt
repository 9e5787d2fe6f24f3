-- After a write no entry is later than its moment, and none is due.
use Rattle.std.proofs.Common.{◌≡◌, ◌≤◌, ◌<◌, ◌+◌, max, cond, Bool, true, false, ℕ, List, [], ◌∷◌, nat_lt, Option, Some, None, Result, Ok, Err, refl, sym, subst, arith}
use Rattle.std.proofs.lemmas.Bool.Decides.{nat_tests}
use Rattle.sleep_model.specs.declared.entry.Entry.{Entry}
use Rattle.sleep_model.specs.declared.machine.SourceCall.{SourceCall}
use Rattle.sleep_model.specs.declared.machine.SourceCall.TheVariants as call
use Rattle.sleep_model.specs.Sources.{since}
use Rattle.wakeup_source.specs.SourceStates.{latest}
use Rattle.wake_locks.specs.declared.answer.LockAnswer.{LockAnswer}
use Rattle.wake_locks.specs.declared.answer.LockAnswer.TheVariants.{NoSpace}
use Rattle.wake_locks.specs.declared.answer.LockFault.{LockFault}
use Rattle.wake_locks.specs.declared.answer.LockFault.TheVariants.{Full, Mem}
use Rattle.wake_locks.specs.declared.status.LockStatus.{LockStatus}
use Rattle.wake_locks.specs.declared.status.LockStatus.TheVariants.{Inactive, Endless, Until}
use Rattle.wake_locks.specs.LockFields.{IsMeant}
use Rattle.wake_locks.specs.Locks.{LockState, new_lock, lock_after_call, entries_after_call, ExpiriesAreDue, AreBefore}
use Rattle.wake_locks.specs.LockStatuses.{status_after, is_due}
use Rattle.wake_locks.specs.Writes.{WriteEnded, on_lock}
use Rattle.wake_locks.proofs.Calls.{entries, lasts}
use Rattle.wake_locks.proofs.Placed.{put_before, put_none_due}

latest_by : (made : SourceCall) (now : ℕ) (own : List Entry) (s : LockStatus) (began : Option ℕ) → IsMeant made now s → latest (entries made now own began) ≡ now
latest_by call.Awake now own s None m = refl
latest_by call.Awake now own s (Some b) m = refl
latest_by call.Relax now own s None m = refl
latest_by call.Relax now own s (Some b) m = refl
latest_by (call.Event ms true) now own s began m = absurd (let no : true ≡ false = m.1 in cc)
latest_by (call.Event ms false) now own s None m = rw (lasts ms m.0) refl
latest_by (call.Event ms false) now own s (Some b) m = rw (lasts ms m.0) refl
latest_by call.Expire now own s None m = refl
latest_by call.Expire now own s (Some b) m = refl

-- the newest entry is of the call's moment
pub latest_after : (made : SourceCall) (now : ℕ) (own : List Entry) (s : LockStatus) → IsMeant made now s → latest (entries_after_call made now own) ≡ now
latest_after made now own s m = latest_by made now own s (since own) m

-- after a call nothing is due
pub not_due : (made : SourceCall) (now : ℕ) (s : LockStatus) → IsMeant made now s → is_due now (status_after made now s) ≡ false
not_due call.Awake now s m = refl
not_due call.Relax now s m = refl
not_due (call.Event ms hard) now Inactive m = let l : 1 ≤ ms = m.0 in grind (arith, nat_tests)
not_due (call.Event ms hard) now Endless m = let l : 1 ≤ ms = m.0 in grind (arith, nat_tests)
not_due (call.Event ms hard) now (Until end) m =
    let l : now < max (now + ms) end = omega (arith, m.0) in
    grind (arith, nat_tests)
not_due call.Expire now s m = refl

-- after a write that makes a call
pub timely_at : (places : ℕ) (lock : LockState) (made : SourceCall) (now : ℕ) (old new : List LockState) (r : Result LockAnswer LockFault) → WriteEnded places (Ok (record { lock = lock; made = made })) now old new r → IsMeant made now lock.status → ExpiriesAreDue now old
    → ExpiriesAreDue now new
timely_at places lock made now old new (Ok a) w m h =
    subst (ExpiriesAreDue now) (sym w.1) (record {
      before = put_before now (lock_after_call made now lock) old (omega (arith, latest_after made now lock.own lock.status m)) h.before;
      none_due = put_none_due now (lock_after_call made now lock) old (not_due made now lock.status m) h.none_due;
    })
timely_at places lock made now old new (Err (Full name)) w m h = subst (ExpiriesAreDue now) (sym w.0) h
timely_at places lock made now old new (Err Mem) w m h = subst (ExpiriesAreDue now) (sym w.0) h

refused : (places : ℕ) (why : LockAnswer) (now : ℕ) (old new : List LockState) (r : Result LockAnswer LockFault) → WriteEnded places (Err why) now old new r → new ≡ old
refused places why now old new (Ok a) w = w.1
refused places why now old new (Err (Full name)) w = w.0
refused places why now old new (Err Mem) w = w.0

-- after a write of a new name
pub timely_new : (places : ℕ) (name : List ℕ) (made : SourceCall) (known now : ℕ) (old new : List LockState) (r : Result LockAnswer LockFault) → WriteEnded places (on_lock name made known None) now old new r → IsMeant made now Inactive → ExpiriesAreDue now old → ExpiriesAreDue now new
timely_new places name made known now old new r w m h = go (nat_lt known 100) w
  where
    go : (b : Bool) → WriteEnded places (cond b (Ok (record { lock = new_lock name; made = made })) (Err NoSpace)) now old new r → ExpiriesAreDue now new
    go true w = timely_at places (new_lock name) made now old new r w m h
    go false w = subst (ExpiriesAreDue now) (sym (refused places NoSpace now old new r w)) h

-- what is before a moment is before a later one
pub before_later : (now to : ℕ) (locks : List LockState) → now ≤ to → AreBefore now locks → AreBefore to locks
before_later now to [] l h = tt
before_later now to (x ∷ xs) l h = (omega (arith, h.0), before_later now to xs l h.1)
