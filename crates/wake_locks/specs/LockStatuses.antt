-- The status of a lock after each call on its source.
use Rattle.std.specs.Prelude.{ℕ, ◌+◌, max, Bool, true, false, nat_le, Option, Some, None}
use Rattle.sleep_model.specs.declared.machine.SourceCall.{SourceCall}
use Rattle.sleep_model.specs.declared.machine.SourceCall.TheVariants as call
use Rattle.wake_locks.specs.declared.status.LockStatus.{LockStatus}
use Rattle.wake_locks.specs.declared.status.LockStatus.TheVariants.{Inactive, Endless, Until}

-- after an event that ends at that moment: a later end is not cut (pm_wakeup_ws_event)
abbrev pub lasting_until : ℕ → LockStatus → LockStatus
lasting_until end Inactive = Until end
lasting_until end Endless = Until end
lasting_until end (Until stands) = Until (max end stands)

-- after a lock without a timeout it lasts until it is unlocked; one with a timeout makes it last until then, unless it lasts until a later
-- moment; an unlock and an expiry end it (pm_wake_lock, pm_wake_unlock)
abbrev pub status_after : SourceCall → ℕ → LockStatus → LockStatus
status_after call.Awake now before = Endless
status_after (call.Event ms hard) now before = lasting_until (now + ms) before
status_after call.Relax now before = Inactive
status_after call.Expire now before = Inactive

-- an event is in progress (ws->active)
abbrev pub is_in_progress : LockStatus → Bool
is_in_progress Inactive = false
is_in_progress Endless = true
is_in_progress (Until end) = true

-- when it ends by itself, if it does (ws->timer_expires)
abbrev pub end_of : LockStatus → Option ℕ
end_of Inactive = None
end_of Endless = None
end_of (Until end) = Some end

-- a moment that does not come: the greatest number of 64 bits (own)
abbrev pub never : ℕ
never = 18446744073709551615

-- when it ends by itself, or never (ws->timer_expires)
abbrev pub end_or_never : LockStatus → ℕ
end_or_never Inactive = never
end_or_never Endless = never
end_or_never (Until end) = end

-- it ends by itself, and by that moment
abbrev pub is_due : ℕ → LockStatus → Bool
is_due by Inactive = false
is_due by Endless = false
is_due by (Until end) = nat_le end by
