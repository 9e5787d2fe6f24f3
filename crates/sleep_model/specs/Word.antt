-- The event word as three numbers (drivers/base/power/wakeup.c).
use Rattle.std.specs.Prelude.{ℕ, ◌+◌, ◌*◌, ◌%◌}
use Rattle.sleep_model.specs.declared.word.EventNow.{EventNow}

-- how many steps were made on the word (own: Linux keeps no such number)
abbrev pub position : EventNow → ℕ
position now = now.inpr + 2 * now.count + now.hard

-- the count of registered events that user space sees (pm_get_wakeup_count, split_counters; 24 bits of it are own: the kernel has 16)
abbrev pub visible : EventNow → ℕ
visible now = now.count % 16777216
