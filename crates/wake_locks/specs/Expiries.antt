-- Expiries, each at its own moment.
use Rattle.std.specs.Prelude.{◌≡◌, ◌+◌, ℕ, suc, zero, nat_le, nat_lt, List, [], ◌∷◌, length, if◌then◌else◌, Option, Some, None, Result, Ok, Err}
use Rattle.sleep_model.specs.declared.machine.SourceCall.TheVariants as call
use Rattle.wake_locks.specs.declared.answer.LockFault.{LockFault}
use Rattle.wake_locks.specs.declared.answer.LockFault.TheVariants.{Full, Mem}
use Rattle.wake_locks.specs.declared.status.LockStatus.{LockStatus}
use Rattle.wake_locks.specs.declared.status.LockStatus.TheVariants.{Inactive, Endless, Until}
use Rattle.wake_locks.specs.Locks.{LockState, lock_after_call, put}

-- a lock that ends by itself, and when
pub record Due : Type 0 where
  pub lock : LockState
  pub at : ℕ

-- this one, unless another ends before it
abbrev pub earlier_of : LockState → ℕ → Option Due → Option Due
earlier_of lock at None = Some (record { lock = lock; at = at })
earlier_of lock at (Some later) = if nat_le at later.at then Some (record { lock = lock; at = at }) else Some later

-- this lock, if it ends by itself by that moment and none after it ends before it
abbrev pub due_of : ℕ → LockState → LockStatus → Option Due → Option Due
due_of to lock Inactive after = after
due_of to lock Endless after = after
due_of to lock (Until end) after = if nat_le end to then earlier_of lock end after else after

-- the lock that ends first by that moment; of those that end together the first by name (pm_wakeup_timer_fn)
abbrev pub next_due : ℕ → List LockState → Option Due
next_due to [] = None
next_due to (lock ∷ locks) = due_of to lock lock.status (next_due to locks)

-- the locks after an expiry at its own moment
abbrev pub locks_after_expiry : Due → List LockState → List LockState
locks_after_expiry due locks = put (lock_after_call call.Expire due.at due.lock) locks

-- the locks after expiries, and the lock that stopped them since its source is full
pub record Advanced : Type 0 where
  pub locks : List LockState
  pub full : Option LockState

-- the locks when expiries end, and a lock whose full source ended them
abbrev pub stopped : List LockState → Option LockState → Advanced
stopped locks full = record { locks = locks; full = full }

-- the locks after the next expiry, if one is due
abbrev pub after_next : Option Due → List LockState → List LockState
after_next None locks = locks
after_next (Some due) locks = locks_after_expiry due locks

-- if none is due all are made; a full source stops them; else it goes on
abbrev pub onward : ℕ → Option Due → List LockState → Advanced → Advanced
onward places None locks later = stopped locks None
onward places (Some due) locks later = if nat_lt places (length due.lock.own + 4) then stopped locks (Some due.lock) else later

-- at most n expiries, one after another, up to that moment
abbrev pub expiries : ℕ → ℕ → ℕ → List LockState → Advanced
expiries places to zero locks = stopped locks None
expiries places to (suc n) locks =
    onward places (next_due to locks) locks (expiries places to n (after_next (next_due to locks) locks))

-- all expiries up to that moment: each lock has one at most
abbrev pub advanced : ℕ → ℕ → List LockState → Advanced
advanced places to locks = expiries places to (length locks) locks

-- what an answer means: all expiries were made, or those before that of a full source, or some before memory ran out
abbrev pub IsAdvance : ℕ → ℕ → List LockState → List LockState → Result (Unit {0}) LockFault → Type 0
IsAdvance places to old new (Ok done) = advanced places to old ≡ stopped new None
IsAdvance places to old new (Err (Full name)) = (lock : LockState) × (name ≡ lock.name) × (advanced places to old ≡ stopped new (Some lock))
IsAdvance places to old new (Err Mem) = (n : ℕ) × (expiries places to n old ≡ stopped new None)
