-- The invariant of the loop of `split`.
use Rattle.std.proofs.Common.{◌≡◌}
use Rattle.event_word.specs.Lists.{tokens}
use Rattle.run_objects.specs.Closed.{histories_of}
use Rattle.run_objects.specs.Objects.{SourcesInvariant, seats_of}
use Rattle.run_objects.proofs.closing.split.Given as goal

abbrev pub invariant-loop-source : goal.invariant-loop-source
invariant-loop-source l = (tokens l.seats.items ≡ seats_of l.yielded) × (l.histories.items ≡ histories_of l.yielded) × SourcesInvariant l.yielded
