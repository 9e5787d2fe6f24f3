-- The invariant of the loop of `first_again`.
use Rattle.std.proofs.Common.{◌≡◌, ◌&&◌, not, take, is_some}
use Rattle.std.specs.List.{list_any}
use Rattle.indexmap.specs.IndexMap.{get}
use Rattle.file_rules.specs.declared.rules.pairs.LinkEnds.{LinkEnds}
use Rattle.file_rules.specs.Seen.{ends_seen, differ, same_ends}
use Rattle.file_rules.proofs.Placing.{later_from}
use Rattle.file_rules.proofs.rules.pairs.first_again.Given as goal

-- each so far has two ends, and is none before; and those so far are found
abbrev pub invariant-loop-i : goal.invariant-loop-i
invariant-loop-i l =
    (later_from (λ before e. differ (ends_seen e) && not (list_any (λ f. same_ends (ends_seen e) (ends_seen f)) before)) l.ends 0
    ≡ later_from (λ before e. differ (ends_seen e) && not (list_any (λ f. same_ends (ends_seen e) (ends_seen f)) before)) l.ends l.i)
    × ((k : LinkEnds) → is_some (get (λ e f. same_ends (ends_seen e) (ends_seen f)) l.seen k) ≡ list_any (λ f. same_ends (ends_seen k) (ends_seen f)) (take l.i l.ends))
