-- The lines that are held back, those of the entries that are left and those after are all lines.
use Rattle.std.proofs.Common.{◌≡◌, ◌≤◌, ◌++◌, length, flat_map}
use Rattle.sleep_model.specs.Text.{entry_line}
use Rattle.sleep_model.specs.Interleaved.{unread}
use Rattle.log_text.specs.Passing.{Takes}
use Rattle.log_text.proofs.writing.stream.write_lines.Given as goal

abbrev pub invariant-loop-entry : goal.invariant-loop-entry
invariant-loop-entry g l = record {
  machine : l.stream.machine ≡ l.frame.machine;
  told : Takes (g.K.ByteSink.written l.initial.sink) (g.K.ByteSink.written l.sink) (g.K.ByteSink.faults l.initial.sink) (g.K.ByteSink.faults l.sink) (flat_map (entry_line l.frame.machine) l.entries ++ l.frame.closing) (l.stream.buffered ++ (flat_map (entry_line l.frame.machine) (unread l.reader) ++ l.frame.closing));
  later : g.K.ByteSink.faults l.initial.sink ≤ g.K.ByteSink.faults l.sink;
}

abbrev pub decreases-loop-entry : goal.decreases-loop-entry
decreases-loop-entry g l = length (unread l.reader)
