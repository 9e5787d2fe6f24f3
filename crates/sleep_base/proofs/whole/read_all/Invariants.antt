-- What was taken is in `bytes`, and is within the limit.
use Rattle.std.proofs.Common.{◌≤◌, ◌-◌, length}
use Rattle.std.specs.Io.KnownBytes.{Consumes}
use Rattle.sleep_base.proofs.whole.read_all.Given as goal

abbrev pub invariant-loop-bytes : goal.invariant-loop-bytes
invariant-loop-bytes g l = record {
  taken : Consumes (g.S.ByteSource.left l.initial.source) (g.S.ByteSource.left l.source) l.bytes.items;
  within : length l.bytes.items ≤ l.limit;
  later : g.S.ByteSource.faults l.initial.source ≤ g.S.ByteSource.faults l.source;
}

abbrev pub decreases-loop-bytes : goal.decreases-loop-bytes
decreases-loop-bytes g l = l.limit - length l.bytes.items
