-- The numbers and the time of a point of the log.
use Rattle.std.specs.Prelude.{◌≡◌, List}
use Rattle.sleep_model.specs.declared.entry.Entry.{Entry}
use Rattle.sleep_model.specs.Legal.{IsOnTime}
use Rattle.sleep_model.specs.Numbers.{numbers}
use Rattle.sleep_model.specs.EntryClasses.{EntryClass}

-- an entry is stamped with the word at that moment, and with the time of the last jump; a jump has a time of its own (combined_event_count)
abbrev pub KeepsNumbers : List Entry → Entry → EntryClass → Type 0
KeepsNumbers past e part = (e.now ≡ numbers past) × IsOnTime past e.time part
