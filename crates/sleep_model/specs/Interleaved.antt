-- The entries of a journal with others among them (own: Linux keeps no such log).
use Rattle.std.specs.Prelude.{◌≤◌, ℕ, suc, Bool, true, not, nat_le, List, [], ◌∷◌, if◌then◌else◌}
use Rattle.sleep_model.specs.declared.entry.Entry.{Entry}
use Rattle.sleep_model.specs.declared.entry.JournalEntry.{JournalEntry}
use Rattle.sleep_model.specs.declared.entry_list.OtherEntry.{OtherEntry}

-- after n of a journal, another entry comes before all that is left of it
abbrev pub is_ahead : ℕ → List JournalEntry → OtherEntry → Bool
is_ahead n [] other = true
is_ahead n (e ∷ rest) other = nat_le other.before n

-- the entries that are left of a journal and of others, after n of the journal: each of the others comes after as many of the journal as it
-- says
abbrev pub interleaved : ℕ → List JournalEntry → List OtherEntry → List Entry
interleaved n [] [] = []
interleaved n [] (other ∷ others) = other.entry ∷ interleaved n [] others
interleaved n (e ∷ rest) [] = e.entry ∷ interleaved (suc n) rest []
interleaved n (e ∷ rest) (other ∷ others) =
    if nat_le other.before n then other.entry ∷ interleaved n (e ∷ rest) others
    else e.entry ∷ interleaved (suc n) rest (other ∷ others)

-- each of the others comes after at most n entries of a journal
abbrev pub AreWithin : ℕ → List OtherEntry → Type 0
AreWithin n [] = Unit {0}
AreWithin n (other ∷ others) = (other.before ≤ n) × AreWithin n others

-- none of the others is next
abbrev pub is_journals_turn : ℕ → List JournalEntry → List OtherEntry → Bool
is_journals_turn n journal [] = true
is_journals_turn n journal (other ∷ others) = not (is_ahead n journal other)

-- what is left to read of a journal and of others
pub record Unread : Type 0 where
  pub passed : ℕ
  pub journal : List JournalEntry
  pub others : List OtherEntry

-- the entries that are left to read
abbrev pub unread : Unread → List Entry
unread left = interleaved left.passed left.journal left.others
