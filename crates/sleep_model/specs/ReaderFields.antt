-- What the fields of a reader of entries are.
use Rattle.std.specs.Prelude.{◌<◌, ◌+◌, ◌^◌, length}
use Rattle.sleep_model.specs.declared.entry_list.EntryReader.TheInside.{Inside}
use Rattle.sleep_model.specs.Journals.{items_of, AreOf}
use Rattle.sleep_model.specs.Interleaved.{Unread}

-- what is left to read, as contracts see it
abbrev pub unread_seen : Inside → Unread
unread_seen r = record { passed = r.passed; journal = items_of r.moments.now r.made.now; others = r.others.now }

-- each entry that is left has its moment, and the number of those that were read stays in its range
pub record AreReadable (r : Inside) : Type 0 where
  pub kept : AreOf r.moments.now r.made.now
  pub few : r.passed + length r.made.now < 2 ^ 64
