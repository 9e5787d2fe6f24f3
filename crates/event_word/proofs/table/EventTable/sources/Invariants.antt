-- The invariant of the loop of `sources`.
use Rattle.std.proofs.Common.{◌≡◌, length}
use Rattle.event_word.specs.Seats.{AreNew, source_count, made_of, looked_of, floor_of}
use Rattle.event_word.specs.Lists.{tokens}
use Rattle.event_word.proofs.table.EventTable.sources.Given as goal

abbrev pub invariant-loop : goal.invariant-loop
invariant-loop l = (l.look.token.table_id ≡ l.fn.look.token.table_id) × (length l.seats.items ≡ l.counter) × (source_count l.look.token ≡ l.counter) × AreNew l.look.token (tokens l.seats.items)
    × (looked_of l.look.token ≡ looked_of l.fn.look.token) × (floor_of l.look.token ≡ floor_of l.fn.look.token) × (made_of l.look.token ≡ made_of l.fn.look.token)
