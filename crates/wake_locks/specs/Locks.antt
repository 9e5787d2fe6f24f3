-- Known locks, in the order of their names.
use Rattle.std.specs.Prelude.{◌≡◌, ◌≤◌, ◌++◌, ℕ, Bool, true, false, List, [], ◌∷◌, map, filter, not, Option, Some, None}
use Rattle.std.specs.declared.cmp.Ordering.{Ordering}
use Rattle.std.specs.declared.cmp.Ordering.TheVariants.{Less, Equal, Greater}
use Rattle.std.specs.Cmp.Lexicographic.{slice_cmp}
use Rattle.std.specs.Ordering.{nat_cmp}
use Rattle.sleep_model.specs.declared.entry.Actor.{Actor}
use Rattle.sleep_model.specs.declared.entry.Actor.TheVariants as who
use Rattle.sleep_model.specs.declared.entry.Entry.{Entry}
use Rattle.sleep_model.specs.declared.machine.SourceCall.{SourceCall}
use Rattle.sleep_model.specs.declared.machine.SourceCall.TheVariants as call
use Rattle.sleep_model.specs.Numbers.{numbers}
use Rattle.wakeup_source.specs.SourceStates.{latest}
use Rattle.wakeup_source.specs.Shown.{source_call}
use Rattle.wake_locks.specs.declared.status.LockStatus.{LockStatus}
use Rattle.wake_locks.specs.declared.status.LockStatus.TheVariants.{Inactive}
use Rattle.wake_locks.specs.LockStatuses.{status_after, is_in_progress, is_due}

-- a lock: its name, its status, and the entries of its source, the newest first (struct wakelock)
pub record LockState : Type 0 where
  pub name : List ℕ
  pub status : LockStatus
  pub own : List Entry

-- a lock that was never called
abbrev pub new_lock : List ℕ → LockState
new_lock name = record { name = name; status = Inactive; own = [] }

-- who makes a call: the source's timer an expiry, a task any other
abbrev pub maker : SourceCall → Actor
maker call.Awake = who.Script 0
maker call.Relax = who.Script 0
maker (call.Event ms hard) = who.Script 0
maker call.Expire = who.Timer 0

-- the entries of a source after one more call on it, each with the steps on the word that this source made
abbrev pub entries_after_call : SourceCall → ℕ → List Entry → List Entry
entries_after_call made now own = source_call 0 made (maker made) now (numbers own) own ++ own

-- a lock after one more call on its source
abbrev pub lock_after_call : SourceCall → ℕ → LockState → LockState
lock_after_call made now lock = record {
  name = lock.name;
  status = status_after made now lock.status;
  own = entries_after_call made now lock.own;
}

-- how two names compare, byte by byte
abbrev pub by_name : List ℕ → List ℕ → Ordering
by_name = slice_cmp nat_cmp

-- this lock if the names are the same, none if its name comes later, else what is found after it
abbrev pub found_lock : Ordering → LockState → Option LockState → Option LockState
found_lock Less lock after = after
found_lock Equal lock after = Some lock
found_lock Greater lock after = None

-- the known lock of that name (wakelock_lookup_add)
abbrev pub find : List ℕ → List LockState → Option LockState
find name [] = None
find name (lock ∷ locks) = found_lock (by_name lock.name name) lock (find name locks)

-- before a lock that comes later, in place of one of the same name, else after
abbrev pub inserted : Ordering → LockState → LockState → List LockState → List LockState → List LockState
inserted Less new lock locks after = lock ∷ after
inserted Equal new lock locks after = new ∷ locks
inserted Greater new lock locks after = new ∷ lock ∷ locks

-- the locks with this one at its index (wakelock_lookup_add)
abbrev pub put : LockState → List LockState → List LockState
put new [] = new ∷ []
put new (lock ∷ locks) = inserted (by_name lock.name new.name) new lock locks (put new locks)

-- it is active, or it is not, as is asked
abbrev pub is_as_asked : Bool → LockState → Bool
is_as_asked true lock = is_in_progress lock.status
is_as_asked false lock = not (is_in_progress lock.status)

-- the names of those that are active, or of those that are not, in order (pm_show_wakelocks)
abbrev pub names_of : Bool → List LockState → List (List ℕ)
names_of active locks = map (λ (lock : LockState). lock.name) (filter (is_as_asked active) locks)

-- each lock's name comes before those of the locks after it
abbrev pub PrecedesEach : List ℕ → List LockState → Type 0
PrecedesEach name [] = Unit {0}
PrecedesEach name (lock ∷ locks) = (by_name name lock.name ≡ Less) × PrecedesEach name locks

-- the names come in order, each once
abbrev pub AreSortedByName : List LockState → Type 0
AreSortedByName [] = Unit {0}
AreSortedByName (lock ∷ locks) = PrecedesEach lock.name locks × AreSortedByName locks

-- no entry of a lock is later than that moment
abbrev pub AreBefore : ℕ → List LockState → Type 0
AreBefore now [] = Unit {0}
AreBefore now (lock ∷ locks) = (latest lock.own ≤ now) × AreBefore now locks

-- none is due by that moment
abbrev pub NoneDue : ℕ → List LockState → Type 0
NoneDue now [] = Unit {0}
NoneDue now (lock ∷ locks) = (is_due now lock.status ≡ false) × NoneDue now locks

-- no entry is later than that moment, and no expiry at or before it is pending
pub record ExpiriesAreDue (now : ℕ) (locks : List LockState) : Type 0 where
  pub before : AreBefore now locks
  pub none_due : NoneDue now locks
