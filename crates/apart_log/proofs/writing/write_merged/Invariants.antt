-- The lines of the entries that are left are to pass after those that were put.
use Rattle.std.proofs.Common.{◌≡◌, ◌≤◌, ◌++◌, true, length, reverse}
use Rattle.log_merge.specs.Remainders.{is_in_order}
use Rattle.log_text.specs.Passing.{Passes}
use Rattle.apart_log.specs.Merged.{lines_of, others_of}
use Rattle.apart_log.proofs.writing.write_merged.Given as goal

abbrev pub invariant-loop-other : goal.invariant-loop-other
invariant-loop-other g l = record {
  machine : l.stream.machine ≡ l.frame.machine;
  order : is_in_order l.reader ≡ true;
  others : is_in_order (others_of l.others) ≡ true;
  passes : Passes (g.K.ByteSink.written l.initial.sink) (g.K.ByteSink.written l.sink) (g.K.ByteSink.faults l.initial.sink) (g.K.ByteSink.faults l.sink) (lines_of l.frame.machine (reverse l.journal.past) (others_of l.fn.others)) (l.stream.buffered ++ lines_of l.frame.machine l.reader (others_of l.others));
  later : g.K.ByteSink.faults l.initial.sink ≤ g.K.ByteSink.faults l.sink;
}

abbrev pub decreases-loop-other : goal.decreases-loop-other
decreases-loop-other g l = length (others_of l.others)
