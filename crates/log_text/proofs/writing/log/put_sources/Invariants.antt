-- The invariant of the loop of `put_sources`.
use Rattle.std.proofs.Common.{◌≡◌, ◌++◌, length}
use Rattle.log_text.proofs.Sources.{lines_from}
use Rattle.log_text.proofs.writing.log.put_sources.Given as goal

abbrev pub invariant-loop-name : goal.invariant-loop-name
invariant-loop-name l = l.out ++ lines_from l.names l.stats (length l.yielded) ≡ l.initial.out ++ lines_from l.names l.stats 0
