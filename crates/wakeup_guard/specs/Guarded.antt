-- The saved count, whose visible part has 1 to 24 bits, and whether a wakeup is pending (drivers/base/power/wakeup.c).
use Rattle.std.specs.Prelude.{ℕ, Bool, false, not, ◌==◌, ◌&&◌, ◌||◌, ◌%◌, ◌^◌, nat_lt, if◌then◌else◌, Option, Some, None}
use Rattle.sleep_model.specs.declared.word.EventNow.{EventNow}
use Rattle.sleep_model.specs.declared.entry.Kind.{Kind}
use Rattle.sleep_model.specs.Guard.{CountEffect, count_effect, forgotten_after}
use Rattle.sleep_model.specs.Guard.CountEffect.{Stores, Drops, Finds, Keeps}

-- the count in force, and the hard events that are forgotten (events_check_enabled, saved_count, pm_wakeup_clear)
pub record Guarded : Type 0 where
  pub force : Option ℕ
  pub forgotten : ℕ

-- the last bits of the registered events, which user space sees (pm_get_wakeup_count, split_counters)
abbrev pub visible_part : ℕ → EventNow → ℕ
visible_part bits now = now.count % (2 ^ bits)

-- a save of c succeeds: it is the visible count, and no event is in progress (pm_save_wakeup_count)
abbrev pub may_save : ℕ → EventNow → ℕ → Bool
may_save bits now c = (visible_part bits now == c) && (now.inpr == 0)

-- a count that is in force has changed (pm_wakeup_pending)
abbrev pub has_changed_count : ℕ → Option ℕ → EventNow → Bool
has_changed_count bits None now = false
has_changed_count bits (Some c) now = not (visible_part bits now == c) || nat_lt 0 now.inpr

-- a wakeup is pending (pm_wakeup_pending)
abbrev pub is_wakeup_pending : ℕ → Guarded → EventNow → Bool
is_wakeup_pending bits g now = has_changed_count bits g.force now || nat_lt g.forgotten now.hard

-- the count in force after a test (pm_wakeup_pending)
abbrev pub tested : ℕ → EventNow → Option ℕ → Option ℕ
tested bits now force = if has_changed_count bits force now then None else force

-- the count in force after an entry that saw this word (pm_save_wakeup_count, pm_wakeup_pending)
abbrev pub count_after : ℕ → CountEffect → EventNow → Option ℕ → Option ℕ
count_after bits (Stores c) now force = Some c
count_after bits Drops now force = None
count_after bits Finds now force = tested bits now force
count_after bits Keeps now force = force

-- what an entry that saw this word leaves (pm_save_wakeup_count, pm_wakeup_pending, pm_wakeup_clear)
abbrev pub guarded_after : ℕ → Kind → EventNow → Guarded → Guarded
guarded_after bits kind now g = record {
  force = count_after bits (count_effect kind) now g.force;
  forgotten = forgotten_after kind now g.forgotten;
}
