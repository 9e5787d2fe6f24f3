-- When the entries of a journal rise (own: Linux keeps no such log).
use Rattle.std.specs.Prelude.{Bool, ◌&&◌, nat_le, nat_lt}
use Rattle.sleep_model.specs.declared.entry.JournalEntry.{JournalEntry}
use Rattle.sleep_model.specs.Merge.{next_position}

-- an entry rises after the one before it
abbrev pub rises_on_entry : JournalEntry → JournalEntry → Bool
rises_on_entry last next = nat_lt last.stamp.tick next.stamp.tick && nat_le (next_position last) next.stamp.pos
