-- The invariant of the loop of `put_leading`.
use Rattle.std.proofs.Common.{◌≡◌, ◌+◌, ◌≤◌, ◌++◌, drop, length, vec_len, vec_capacity}
use Rattle.log_merge.specs.WithCounts.{with_counts}
use Rattle.log_merge.specs.Remainders.{seen}
use Rattle.log_merge.proofs.with_counts.put_leading.Given as goal

abbrev pub invariant-loop-place : goal.invariant-loop-place
invariant-loop-place l =
    (l.all.items ++ with_counts l.before l.reader (drop l.place (seen l.others))
    ≡ l.fn.all.items ++ with_counts l.before l.reader (drop l.from (seen l.others)))
    × (l.place ≤ length l.others)
    × (vec_len l.all + length l.others ≤ vec_capacity l.all + l.place)
