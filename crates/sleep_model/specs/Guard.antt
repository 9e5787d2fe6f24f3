-- The saved count, and whether a wakeup is pending (drivers/base/power/wakeup.c).
use Rattle.std.specs.Prelude.{ℕ, Bool, true, false, not, ◌==◌, ◌||◌, nat_lt, List, [], ◌∷◌, if◌then◌else◌, Option, Some, None}
use Rattle.sleep_base.specs.declared.errno.Errno.TheVariants.{EBUSY, EINVAL}
use Rattle.sleep_model.specs.declared.word.EventNow.{EventNow}
use Rattle.sleep_model.specs.declared.entry.Entry.{Entry}
use Rattle.sleep_model.specs.declared.entry.Kind.{Kind}
use Rattle.sleep_model.specs.declared.entry.Kind.TheVariants.{Saved, SaveErr, AutoSaved, AutoUnsaved, Clear, Froze, Skip, CpuBusy, SyscoreCheck, Enter, Freeze}
use Rattle.sleep_model.specs.declared.entry.FrozeEnd.TheVariants.{Wakeup}
use Rattle.sleep_model.specs.declared.entry.SkipCause.TheVariants.{Pending}
use Rattle.sleep_model.specs.declared.entry.Group.TheVariants.{User}
use Rattle.sleep_model.specs.Word.{visible}

-- what an entry does to the saved count (saved_count, events_check_enabled)
pub data CountEffect : Type 0 where
  Stores : (c : ℕ) → CountEffect
  Drops : CountEffect
  Finds : CountEffect
  Keeps : CountEffect

-- a save that succeeds stores; one that fails, and clear, drop; a test that found a wakeup drops what it found changed
-- (pm_save_wakeup_count, pm_wakeup_pending)
abbrev pub count_effect : Kind → CountEffect
count_effect (Saved c) = Stores c
count_effect (AutoSaved c) = Stores c
count_effect (SaveErr c EINVAL) = Drops
count_effect (AutoUnsaved c) = Drops
count_effect Clear = Drops
count_effect (Froze g (Wakeup left first)) = Finds
count_effect (Skip p d Pending) = Finds
count_effect (CpuBusy k) = Finds
count_effect (SyscoreCheck (Some EBUSY)) = Finds
count_effect (Enter true) = Finds
count_effect _ = Keeps

-- an event was registered since c was read, or one is in progress (pm_wakeup_pending)
abbrev pub has_changed : EventNow → ℕ → Bool
has_changed now c = not (visible now == c) || nat_lt 0 now.inpr

-- a count that is in force has changed (pm_wakeup_pending)
abbrev pub count_pending : Option ℕ → EventNow → Bool
count_pending None now = false
count_pending (Some c) now = has_changed now c

-- the count in force after an entry that saw this word (pm_save_wakeup_count, pm_wakeup_pending)
abbrev pub force_after : CountEffect → EventNow → Option ℕ → Option ℕ
force_after (Stores c) now force = Some c
force_after Drops now force = None
force_after Finds now force = if count_pending force now then None else force
force_after Keeps now force = force

-- the count in force (events_check_enabled, saved_count)
abbrev pub in_force : List Entry → Option ℕ
in_force [] = None
in_force (e ∷ past) = force_after (count_effect e.kind) e.now (in_force past)

-- the hard events that a freeze of user tasks forgets (pm_wakeup_clear)
abbrev pub forgotten_after : Kind → EventNow → ℕ → ℕ
forgotten_after (Freeze User) now before = now.hard
forgotten_after _ now before = before

-- the hard number that the last freeze of user tasks saw, else 0 (pm_abort_suspend, pm_wakeup_clear)
abbrev pub forgotten : List Entry → ℕ
forgotten [] = 0
forgotten (e ∷ past) = forgotten_after e.kind e.now (forgotten past)

-- a wakeup is pending (pm_wakeup_pending)
abbrev pub pending : List Entry → EventNow → Bool
pending past now = count_pending (in_force past) now || nat_lt (forgotten past) now.hard
