-- What is counted of a lock, and that it agrees with its source's entries.
use Rattle.std.specs.Prelude.{◌≡◌, ℕ, List, [], ◌∷◌}
use Rattle.sleep_model.specs.Sources.{stats_at}
use Rattle.wake_locks.specs.declared.lock.LockStats.{LockStats}
use Rattle.wake_locks.specs.LockFields.{status_of}
use Rattle.wake_locks.specs.Locks.{LockState}

-- its name, and the statistics of its source at that moment (print_wakeup_source_stats)
abbrev pub lock_stats : ℕ → LockState → LockStats
lock_stats now lock = record { name = lock.name; stats = stats_at lock.own now }

-- its status is that of its source's entries: inactive without an event in progress, else until that ends (wakeup_source_activate,
-- wakeup_source_deactivate)
abbrev pub StatusAgrees : LockState → Type 0
StatusAgrees lock = lock.status ≡ status_of lock.own

-- each of them does
abbrev pub AllAgree : List LockState → Type 0
AllAgree [] = Unit {0}
AllAgree (lock ∷ locks) = StatusAgrees lock × AllAgree locks
