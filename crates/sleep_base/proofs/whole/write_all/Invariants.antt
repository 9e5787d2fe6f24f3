-- A prefix of the bytes was written, and the rest is in `rest`.
use Rattle.std.proofs.Common.{◌≡◌, ◌≤◌, List, ℕ, ◌++◌, length}
use Rattle.std.specs.Io.KnownBytes.{Appends}
use Rattle.sleep_base.proofs.whole.write_all.Given as goal

abbrev pub invariant-loop-rest : goal.invariant-loop-rest
invariant-loop-rest g l = record {
  written : (front : List ℕ) × (l.bytes ≡ front ++ l.rest) × Appends (g.K.ByteSink.written l.initial.sink) (g.K.ByteSink.written l.sink) front;
  later : g.K.ByteSink.faults l.initial.sink ≤ g.K.ByteSink.faults l.sink;
}

abbrev pub decreases-loop-rest : goal.decreases-loop-rest
decreases-loop-rest g l = length l.rest
