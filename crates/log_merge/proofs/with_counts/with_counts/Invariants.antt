-- The invariant of the loop of `with_counts`.
use Rattle.std.proofs.Common.{◌≡◌, ◌≤◌, ◌+◌, ◌++◌, drop, length, reverse, vec_len, vec_capacity}
use Rattle.log_merge.specs.WithCounts.{with_counts}
use Rattle.log_merge.specs.Remainders.{seen}
use Rattle.log_merge.proofs.with_counts.with_counts.Given as goal

abbrev pub invariant-loop-before : goal.invariant-loop-before
invariant-loop-before l =
    (l.all.items ++ with_counts l.before l.reader (drop l.placed (seen l.others)) ≡ with_counts 0 (reverse l.journal.past) (seen l.others))
    × (l.before + length l.reader ≡ length l.journal.past)
    × (l.placed ≤ length l.others)
    × (vec_len l.all + length l.others ≤ vec_capacity l.all + l.placed)
