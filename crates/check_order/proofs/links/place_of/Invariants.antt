-- The invariant of the loop of `place_of`.
use Rattle.std.proofs.Common.{◌≡◌, ◌==◌, false, filter, reverse, take}
use Rattle.sleep_model.specs.Links.{is_linked}
use Rattle.check_order.proofs.links.place_of.Given as goal

abbrev pub invariant-loop-place : goal.invariant-loop-place
invariant-loop-place l = is_linked (reverse (take l.place-index (filter (λ x. x.consumer == l.consumer) l.links))) l.supplier l.consumer ≡ false
