-- What a journal's fields are.
use Rattle.std.specs.Prelude.{◌<◌, ◌≤◌, ◌+◌, ◌^◌, length, reverse, vec_len, vec_capacity}
use Rattle.sleep_model.specs.declared.journal.Journal.TheInside.{Inside}
use Rattle.sleep_model.specs.Journals.{JournalRoom, items_of, AreOf}

-- a journal as contracts see it
abbrev pub journal_room : Inside → JournalRoom
journal_room j = record { past = reverse (items_of j.moments.items j.made.items); room = j.room }

-- each entry has its moment, both lists have the room that is reserved, and each moment to come a number
pub record JournalInvariant (j : Inside) : Type 0 where
  pub kept : AreOf j.moments.items j.made.items
  pub made : vec_len j.made + j.room ≤ vec_capacity j.made
  pub moments : vec_len j.moments + j.room ≤ vec_capacity j.moments
  pub few : length j.moments.items + j.room + 1 < 2 ^ 32
