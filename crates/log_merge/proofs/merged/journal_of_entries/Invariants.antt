-- The invariant of the loop of `journal_of_entries`.
use Rattle.std.proofs.Common.{◌≡◌, ◌≤◌, ◌+◌, length, reverse, take}
use Rattle.log_merge.proofs.merged.journal_of_entries.Given as goal

abbrev pub invariant-loop-entry : goal.invariant-loop-entry
invariant-loop-entry l = (reverse l.journal.past ≡ take l.entry-index l.entries) × (length l.entries ≤ l.journal.room + l.entry-index)
