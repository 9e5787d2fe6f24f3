-- What writes to wake_lock and wake_unlock answer, and what they leave.
use Rattle.std.specs.Prelude.{◌≡◌, ◌+◌, ◌<◌, ℕ, nat_lt, List, length, if◌then◌else◌, Option, Some, None, Result, Ok, Err}
use Rattle.sleep_model.specs.declared.machine.SourceCall.{SourceCall}
use Rattle.sleep_model.specs.declared.machine.SourceCall.TheVariants as call
use Rattle.wake_locks.specs.declared.answer.LockAnswer.{LockAnswer}
use Rattle.wake_locks.specs.declared.answer.LockAnswer.TheVariants.{Done, BadText, NoSpace}
use Rattle.wake_locks.specs.declared.answer.LockFault.{LockFault}
use Rattle.wake_locks.specs.declared.answer.LockFault.TheVariants.{Full, Mem}
use Rattle.wake_locks.specs.Locks.{LockState, new_lock, lock_after_call, find, put}
use Rattle.wake_locks.specs.Texts.{lock_text, unlock_text}

-- a call on a lock's source
pub record Asked : Type 0 where
  pub lock : LockState
  pub made : SourceCall

-- a call on the known lock, else on a new one, of which there are at most 100 (wakelocks_limit_exceeded)
abbrev pub on_lock : List ℕ → SourceCall → ℕ → Option LockState → Result Asked LockAnswer
on_lock name made known (Some lock) = Ok (record { lock = lock; made = made })
on_lock name made known None = if nat_lt known 100 then Ok (record { lock = new_lock name; made = made }) else Err NoSpace

-- the call that is asked for, or why there is none
abbrev pub locks_by : Option (List ℕ × SourceCall) → List LockState → Result Asked LockAnswer
locks_by None locks = Err BadText
locks_by (Some p) locks = on_lock p.0 p.1 (length locks) (find p.0 locks)

-- the call that a text for wake_lock makes, or why it makes none (pm_wake_lock)
abbrev pub asked_lock : List ℕ → List LockState → Result Asked LockAnswer
asked_lock text locks = locks_by (lock_text text) locks

-- an unlock of the known lock
abbrev pub off_lock : Option LockState → Result Asked LockAnswer
off_lock None = Err BadText
off_lock (Some lock) = Ok (record { lock = lock; made = call.Relax })

-- the lock that is to be unlocked, or why there is none
abbrev pub unlocks_by : Option (List ℕ) → List LockState → Result Asked LockAnswer
unlocks_by None locks = Err BadText
unlocks_by (Some name) locks = off_lock (find name locks)

-- the call that a text for wake_unlock makes, or why it makes none (pm_wake_unlock)
abbrev pub asked_unlock : List ℕ → List LockState → Result Asked LockAnswer
asked_unlock text locks = unlocks_by (unlock_text text) locks

-- what the write answers
abbrev pub answer_of : Result Asked LockAnswer → LockAnswer
answer_of (Ok asked) = Done
answer_of (Err why) = why

-- the locks after it: a refused write changes nothing
abbrev pub after_write : Result Asked LockAnswer → ℕ → List LockState → List LockState
after_write (Ok asked) now locks = put (lock_after_call asked.made now asked.lock) locks
after_write (Err why) now locks = locks

-- the answer to a call that was made, or its fault
abbrev pub answered : Result (Unit {0}) LockFault → Result LockAnswer LockFault
answered (Ok made) = Ok Done
answered (Err fault) = Err fault

-- the history of a lock's source has fewer than four places left
abbrev pub IsFull : ℕ → LockState → Type 0
IsFull places lock = places < length lock.own + 4

-- a call is to be made on the source of that name, which is full
abbrev pub FillsUp : ℕ → Result Asked LockAnswer → List ℕ → Type 0
FillsUp places (Ok asked) name = (name ≡ asked.lock.name) × IsFull places asked.lock
FillsUp places (Err why) name = ⊥

-- no call is to be made on a full source
abbrev pub CallHasRoom : ℕ → Result Asked LockAnswer → Type 0
CallHasRoom places (Ok asked) = ¬ (IsFull places asked.lock)
CallHasRoom places (Err why) = Unit {0}

-- how a write ends: answered, with the locks after it; or as before, at a full source, which is named, or if it is out of memory
abbrev pub WriteEnded : ℕ → Result Asked LockAnswer → ℕ → List LockState → List LockState → Result LockAnswer LockFault → Type 0
WriteEnded places asked now old new (Ok answer) = (answer ≡ answer_of asked) × (new ≡ after_write asked now old) × CallHasRoom places asked
WriteEnded places asked now old new (Err (Full name)) = (new ≡ old) × FillsUp places asked name
WriteEnded places asked now old new (Err Mem) = (new ≡ old) × CallHasRoom places asked
