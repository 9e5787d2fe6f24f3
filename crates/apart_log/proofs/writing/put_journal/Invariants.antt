-- The lines of the entries that are left are to pass after those that were put.
use Rattle.std.proofs.Common.{◌≡◌, ◌≤◌, ◌++◌, true, length}
use Rattle.log_merge.specs.Remainders.{is_in_order}
use Rattle.log_text.specs.Passing.{Passes}
use Rattle.apart_log.specs.Merged.{lines_of, others_of}
use Rattle.apart_log.proofs.writing.put_journal.Given as goal

abbrev pub invariant-loop-one : goal.invariant-loop-one
invariant-loop-one g l = record {
  machine : l.stream.machine ≡ l.initial.stream.machine;
  order : is_in_order l.journal ≡ true;
  passes : Passes (g.K.ByteSink.written l.initial.sink) (g.K.ByteSink.written l.sink) (g.K.ByteSink.faults l.initial.sink) (g.K.ByteSink.faults l.sink) (l.initial.stream.buffered ++ lines_of l.initial.stream.machine l.initial.journal (others_of l.others)) (l.stream.buffered ++ lines_of l.initial.stream.machine l.journal (others_of l.others));
  later : g.K.ByteSink.faults l.initial.sink ≤ g.K.ByteSink.faults l.sink;
}

abbrev pub decreases-loop-one : goal.decreases-loop-one
decreases-loop-one g l = length l.journal
