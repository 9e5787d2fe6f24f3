-- What the fields of a lock, and of the known locks, are.
use Rattle.std.specs.Prelude.{◌≡◌, ◌≤◌, ◌<◌, ◌-◌, ◌/◌, ◌++◌, ℕ, zero, suc, min, true, false, nat_le, List, [], ◌∷◌, length, drop, slice_index, slice_index_or, is_some, if◌then◌else◌, Option, Some, None}
use Rattle.std.specs.declared.cmp.Ordering.TheVariants.{Less, Equal, Greater}
use Rattle.sleep_model.specs.declared.entry.Entry.{Entry}
use Rattle.sleep_model.specs.declared.machine.SourceCall.{SourceCall}
use Rattle.sleep_model.specs.declared.machine.SourceCall.TheVariants as call
use Rattle.sleep_model.specs.declared.word.EventNow.{EventNow}
use Rattle.sleep_model.specs.Numbers.{numbers}
use Rattle.sleep_model.specs.Places.{one_if}
use Rattle.sleep_model.specs.Sources.{makes, since, expiry, most_entries}
use Rattle.wakeup_source.specs.declared.call_by.CallBy.{CallBy}
use Rattle.wakeup_source.specs.SourceStates.{SourceState, unstamped_source, latest}
use Rattle.wakeup_source.specs.Shown.{source_call, word_after_kinds}
use Rattle.wake_locks.specs.declared.status.LockStatus.{LockStatus}
use Rattle.wake_locks.specs.declared.status.LockStatus.TheVariants.{Inactive, Endless, Until}
use Rattle.wake_locks.specs.declared.soonest.Soonest.{Soonest}
use Rattle.wake_locks.specs.Expiries.{Due, next_due}
use Rattle.wake_locks.specs.Locks.{LockState, AreSortedByName, by_name}
use Rattle.wake_locks.specs.LockStatuses.{is_due, end_or_never, never}

-- the status of a source with an event in progress, by when that ends
abbrev pub status_by : Option ℕ → LockStatus
status_by None = Endless
status_by (Some end) = Until end

-- the status of a source, by when its event began and when it ends
abbrev pub status_from : Option ℕ → Option ℕ → LockStatus
status_from None end = Inactive
status_from (Some began) end = status_by end

-- the status of a source with these entries
abbrev pub status_of : List Entry → LockStatus
status_of own = status_from (since own) (expiry own)

-- a moment that is set is not before that one
abbrev pub IsNotBefore : ℕ → Option ℕ → Type 0
IsNotBefore now None = Unit {0}
IsNotBefore now (Some end) = now ≤ end

-- what holds of a source's entries: the word of its own steps is small, and an event that ends by itself is in progress
pub record SourceInvariant (own : List Entry) : Type 0 where
  pub in_progress : (numbers own).inpr ≡ one_if (is_some (since own))
  pub finished : (numbers own).count ≤ length own
  pub rests : since own ≡ None → expiry own ≡ None
  pub ends : IsNotBefore (latest own) (expiry own)

-- and of the fields of a lock
pub record IsLock (status : LockStatus) (source : SourceState) (word : EventNow) : Type 0 where
  pub stands : status ≡ status_of (unstamped_source source.past)
  pub number : source.id ≡ 0
  pub word_is : word ≡ numbers (unstamped_source source.past)
  pub kept : SourceInvariant (unstamped_source source.past)
  pub short : length source.past ≤ most_entries

-- the source has gained the entries of a call, and the word has made its steps
pub record GainsCall (by : CallBy) (made : SourceCall) (word later : EventNow) (old new : SourceState) : Type 0 where
  pub number : new.id ≡ old.id
  pub entries : unstamped_source new.past ≡ source_call old.id made by.actor by.now word (unstamped_source old.past) ++ unstamped_source old.past
  pub word_is : later ≡ word_after_kinds (makes made (since (unstamped_source old.past))) word
  pub short : length new.past ≤ most_entries

-- a call that a lock may have: an event has a length and is no hard one, an expiry comes when it is due
abbrev pub IsMeant : SourceCall → ℕ → LockStatus → Type 0
IsMeant (call.Event ms hard) now before = (1 ≤ ms) × (hard ≡ false)
IsMeant call.Expire now before = is_due now before ≡ true
IsMeant _ now before = Unit {0}

-- ---- indices among the locks

-- the names of the locks before that index come before this one
abbrev pub AreAllBefore : List ℕ → List LockState → ℕ → Type 0
AreAllBefore name locks at = (j : ℕ) (d : LockState) → j < at → by_name (slice_index_or locks j d).name name ≡ Less

-- the lock of that name is there
pub record IsLockAt (name : List ℕ) (locks : List LockState) (at : ℕ) : Type 0 where
  pub in_range : at < length locks
  pub before : AreAllBefore name locks at
  pub here : (d : LockState) → by_name (slice_index_or locks at d).name name ≡ Equal

-- there is none, and it would go there
pub record IsGapFor (name : List ℕ) (locks : List LockState) (at : ℕ) : Type 0 where
  pub in_range : at ≤ length locks
  pub before : AreAllBefore name locks at
  pub after : (d : LockState) → at < length locks → by_name (slice_index_or locks at d).name name ≡ Greater

-- what is found as due: its index and its moment, which is not before its last entry
abbrev pub MatchDue : List LockState → Option Due → Option (ℕ × ℕ) → Type 0
MatchDue locks None None = Unit {0}
MatchDue locks None (Some p) = ⊥
MatchDue locks (Some due) None = ⊥
MatchDue locks (Some due) (Some p) = (p.0 < length locks) × ((d : LockState) → slice_index_or locks p.0 d ≡ due.lock) × (p.1 ≡ due.at) × (due.lock.status ≡ Until due.at) × (latest due.lock.own ≤ due.at)

-- ---- the lock that ends first

-- none of the locks ends by itself before that moment
abbrev pub NoneEndsBefore : ℕ → List LockState → Type 0
NoneEndsBefore soonest [] = Unit {0}
NoneEndsBefore soonest (lock ∷ locks) = (soonest ≤ end_or_never lock.status) × NoneEndsBefore soonest locks

-- none of them does, but for the one at that index
abbrev pub NoOtherEndsBefore : ℕ → ℕ → List LockState → Type 0
NoOtherEndsBefore others at [] = Unit {0}
NoOtherEndsBefore others zero (lock ∷ locks) = NoneEndsBefore others locks
NoOtherEndsBefore others (suc at) (lock ∷ locks) = (others ≤ end_or_never lock.status) × NoOtherEndsBefore others at locks

-- none of the locks from one index up to another ends by itself before that moment
abbrev pub NoneEndsWithin : ℕ → ℕ → ℕ → List LockState → Type 0
NoneEndsWithin moment from until locks = (j : ℕ) (d : LockState) → from ≤ j → j < until → moment ≤ end_or_never (slice_index_or locks j d).status

-- none of a row of eight ends before the row's moment
pub record AreFloors (moments : List ℕ) (locks : List LockState) : Type 0 where
  pub rows : length moments ≡ 13
  pub below : (j : ℕ) (d : LockState) → j < length locks → slice_index moments (j / 8) ≤ end_or_never (slice_index_or locks j d).status

-- the lock that ends first, with one more before the others, which ends at that moment
abbrev pub with_lock : ℕ → ℕ → Soonest → Soonest
with_lock at end found =
    if nat_le end found.end then record { at = at; end = end; others = min found.others found.end }
    else record { at = found.at; end = found.end; others = min found.others end }

-- with more of which none ends before that moment
abbrev pub with_floor : ℕ → Soonest → Soonest
with_floor floor found = record { at = found.at; end = found.end; others = min found.others floor }

-- its index, and its end
abbrev pub index_and_end : Soonest → ℕ × ℕ
index_and_end found = (found.at, found.end)

-- the same, if it ends by that moment
abbrev pub found_by : ℕ → Soonest → Option (ℕ × ℕ)
found_by to found = if nat_le found.end to then Some (found.at, found.end) else None

-- what is found of the locks from that index on: which ends first, if one ends by that moment, and that no other ends before `others`
pub record IsSoonest (to : ℕ) (locks : List LockState) (from : ℕ) (found : Soonest) : Type 0 where
  pub within : from ≤ length locks
  pub after : from ≤ found.at
  pub last : found.end ≤ never
  pub few : found.others ≤ never
  pub first : MatchDue locks (next_due to (drop from locks)) (found_by to found)
  pub least : NoneEndsBefore (min found.end found.others) (drop from locks)
  pub others : NoOtherEndsBefore found.others (found.at - from) (drop from locks)

-- what holds of all locks
pub record AreLocks (places soonest : ℕ) (floors : List ℕ) (locks : List LockState) : Type 0 where
  pub in_order : AreSortedByName locks
  pub few : length locks ≤ 100
  pub places_few : places ≤ most_entries
  pub none_sooner : NoneEndsBefore soonest locks
  pub floors_are : AreFloors floors locks
