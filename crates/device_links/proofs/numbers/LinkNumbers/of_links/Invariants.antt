-- The invariant of the loop of `of_links`.
use Rattle.std.proofs.Common.{length, take, reverse}
use Rattle.device_links.specs.Invariant.{AreNumbered}
use Rattle.device_links.proofs.numbers.LinkNumbers.of_links.Given as goal

abbrev pub invariant-loop-number : goal.invariant-loop-number
invariant-loop-number l = AreNumbered (length l.parents) (reverse (take l.number l.links)) l.numbers.by_supplier.rows l.numbers.by_consumer.rows
