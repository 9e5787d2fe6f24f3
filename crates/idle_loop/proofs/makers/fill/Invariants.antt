-- The invariant of the loop of `fill`.
use Rattle.std.proofs.Common.{◌≡◌, drop, vec_len}
use Rattle.idle_loop.specs.Makers.{filled}
use Rattle.idle_loop.proofs.makers.fill.Given as goal

abbrev pub invariant-loop-place : goal.invariant-loop-place
invariant-loop-place l = (filled l.who (drop l.place-index l.ranks) l.makers.items ≡ filled l.who l.ranks l.fn.makers.items) × (vec_len l.makers ≡ vec_len l.fn.makers)
