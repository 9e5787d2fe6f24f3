-- The invariant of the loop of `put_hards`.
use Rattle.std.proofs.Common.{List, reverse, take}
use Rattle.idle_loop.specs.declared.entry.IdleEntry.{IdleEntry}
use Rattle.idle_loop.specs.Merging.{Merges}
use Rattle.idle_loop.proofs.merge.put_hards.Given as goal

-- whatever the journal is, the log is the merge with the hard events so far
abbrev pub invariant-loop-before : goal.invariant-loop-before
invariant-loop-before l = (journal : List IdleEntry) → Merges (reverse (take l.from l.makers)) journal (reverse l.fn.log.items) → Merges (reverse (take l.before l.makers)) journal (reverse l.log.items)
