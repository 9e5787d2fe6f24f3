-- The entries of a log slice by slice, by their positions (own: Linux keeps no such log).
use Rattle.std.specs.Prelude.{◌≤◌, ℕ, Bool, true, ◌&&◌, nat_le, nat_lt, List, filter, flat_map, map, Option, Some, None, Vec}
use Rattle.std.specs.declared.alloc.Global.{Global}
use Rattle.sleep_model.specs.declared.entry.Entry.{Entry}
use Rattle.sleep_model.specs.declared.entry.JournalEntry.{JournalEntry}
use Rattle.sleep_model.specs.declared.machine.Machine.{Machine}
use Rattle.sleep_model.specs.Merge.{in_order}
use Rattle.sleep_model.specs.Text.{entry_line}
use Rattle.apart_log.specs.declared.range.Range.{Range}

-- a position is before the end of a range, if it has one
abbrev pub is_before_end : ℕ → Option ℕ → Bool
is_before_end pos None = true
is_before_end pos (Some end) = nat_lt pos end

-- the entry's position is one of the range
abbrev pub is_in : Range → JournalEntry → Bool
is_in range e = nat_le range.from e.stamp.pos && is_before_end e.stamp.pos range.to

-- the entries of a range, in the order of the one log
abbrev pub slice : Range → List JournalEntry → List Entry
slice range entries = map (λ e. e.entry) (in_order (filter (is_in range) entries))

-- their lines
abbrev pub slice_lines : Machine → Range → List JournalEntry → List ℕ
slice_lines m range entries = flat_map (entry_line m) (slice range entries)

-- that position lies before the end of the range, or is its end
abbrev pub IsUpTo : ℕ → Option ℕ → Type 0
IsUpTo pos None = Unit {0}
IsUpTo pos (Some end) = pos ≤ end

-- texts one after the other
abbrev pub joined_texts : List (Vec ℕ Global) → List ℕ
joined_texts texts = flat_map (λ text. text.items) texts
