-- The texts that answer writes, names and sources.
use Rattle.std.specs.Prelude.{ℕ, List, ◌++◌, codes, flat_map, map}
use Rattle.sleep_model.specs.Text.{newline, source_line, space}
use Rattle.wake_locks.specs.declared.answer.LockAnswer.{LockAnswer}
use Rattle.wake_locks.specs.declared.answer.LockAnswer.TheVariants.{Done, BadText, NoSpace}
use Rattle.wake_locks.specs.declared.lock.LockStats.{LockStats}
use Rattle.wake_locks.specs.Counted.{lock_stats}
use Rattle.wake_locks.specs.Locks.{LockState}

-- what a write answers, as a line: 0, or the error's name (wake_lock_store)
abbrev pub answer_text : LockAnswer → List ℕ
answer_text Done = codes "0" ++ newline
answer_text BadText = codes "EINVAL" ++ newline
answer_text NoSpace = codes "ENOSPC" ++ newline

-- a name after a space
abbrev pub spaced : List ℕ → List ℕ
spaced name = space ++ name

-- names after a word, as a line (pm_show_wakelocks)
abbrev pub names_line : List ℕ → List (List ℕ) → List ℕ
names_line word names = word ++ flat_map spaced names ++ newline

-- the line of a lock's source (print_wakeup_source_stats)
abbrev pub counted_line : LockStats → List ℕ
counted_line c = source_line c.name c.stats

-- a line for the source of each lock, in order, at that moment (wakeup_sources_stats_seq_show)
abbrev pub source_lines : ℕ → List LockState → List ℕ
source_lines now locks = flat_map counted_line (map (lock_stats now) locks)
