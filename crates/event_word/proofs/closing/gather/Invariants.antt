-- The invariant of the loop of `gather`.
use Rattle.std.proofs.Common.{◌≡◌, ◌++◌}
use Rattle.event_word.specs.Seats.{IsLook, source_count, looked_of}
use Rattle.event_word.specs.Lists.{made_lists, looked_lists}
use Rattle.event_word.proofs.closing.gather.Given as goal

abbrev pub invariant-loop-seat : goal.invariant-loop-seat
invariant-loop-seat l = (l.look.table_id ≡ l.fn.look.table_id) × IsLook l.look × (source_count l.look ≡ source_count l.fn.look) × (looked_of l.look ≡ looked_of l.fn.look)
    × (l.look.me.0.known ≡ made_lists l.yielded) × (l.look.me.0.heard ≡ looked_lists l.yielded) × (l.yielded ++ l.seat-iterator.rest.items ≡ l.fn.seats.items)
