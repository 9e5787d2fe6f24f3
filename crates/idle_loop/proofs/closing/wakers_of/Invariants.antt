-- The invariant of the loop of `wakers_of`.
use Rattle.std.proofs.Common.{◌≤◌, ◌+◌, vec_len, vec_capacity}
use Rattle.idle_loop.specs.Ends.{AreOff, AreWakes}
use Rattle.idle_loop.proofs.closing.wakers_of.Given as goal

abbrev pub invariant-loop-role : goal.invariant-loop-role
invariant-loop-role l =
    AreOff l.yielded l.seats.items l.ranks.items
    × AreWakes l.role-iterator.rest.items
    × (vec_len l.seats + l.role-iterator.rest.len ≤ vec_capacity l.seats)
    × (vec_len l.ranks + l.role-iterator.rest.len ≤ vec_capacity l.ranks)
