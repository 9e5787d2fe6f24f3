-- The invariant of the loop of `seated`.
use Rattle.std.proofs.Common.{◌≡◌, ◌++◌, length}
use Rattle.event_word.specs.Lists.{tokens}
use Rattle.run_objects.specs.Objects.{AreUncalled, seats_of}
use Rattle.run_objects.proofs.opening.seated.Given as goal

abbrev pub invariant-loop-seat : goal.invariant-loop-seat
invariant-loop-seat l =
    (l.number ≡ length l.yielded) × (length l.sources.items ≡ length l.yielded) × (seats_of l.sources.items ≡ tokens l.yielded) × AreUncalled l.sources.items
    × (l.yielded ++ l.seat-iterator.rest.items ≡ l.fn.seats.items)
