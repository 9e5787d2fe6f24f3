-- The order has each device.
use Rattle.std.proofs.Common.{◌≡◌, ◌<◌, ◌+◌, ◌∙◌, ℕ, List, length, get_or, set, ap, sym, subst, arith, length-set}
use Rattle.sleep_model.specs.Order.{active_of, dependents}
use Rattle.sleep_model.specs.Links.{first_occurrences}
use Rattle.async_board.proofs.Counting.{among_at}
use Rattle.async_board.proofs.Indices.{numbers_more, lengths_all}
use Rattle.async_board.proofs.walk.count_below.Goals as goal

pub bounds-counts-device : goal.bounds-counts-device
bounds-counts-device c =
    let order = c.order-order.result.now in
    let within : get_or order c.loop-device.device-index 0 < length c.args.links.now.parents = c.order-order.ensures.within _ (among_at order c.loop-device.device-index c.loop-device-test.true) in
    omega (arith, within, c.loop-device.invariant.0)

pub loop-device-preserved : goal.loop-device-preserved
loop-device-preserved c =
    let order = c.order-order.result.now in
    let links = c.args.links.now in
    let k = c.loop-device.device-index in
    let within : get_or order k 0 < length links.parents = c.order-order.ensures.within _ (among_at order k c.loop-device-test.true) in
    let row : ℕ → List ℕ = λ d. first_occurrences (dependents links.parents (active_of links.links) d) in (
      length-set c.loop-device.counts (get_or order k 0) (length c.below.result.now) ∙ c.loop-device.invariant.0,
      subst (λ (n : ℕ). (i : ℕ) → i < k + 1 → get_or (set c.loop-device.counts (get_or order k 0) n) (get_or order i 0) 0 ≡ length (row (get_or order i 0))) (sym (ap length c.below.ensures))
          (numbers_more (λ d. length (row d)) order c.loop-device.counts k (omega (arith, within, c.loop-device.invariant.0)) c.loop-device.invariant.1),
    )

pub returns : goal.returns
returns c =
    let order = c.order-order.result.now in
    let links = c.args.links.now in
    lengths_all (λ d. first_occurrences (dependents links.parents (active_of links.links) d)) order c.loop-device.counts (length links.parents)
    (sym c.order-order.ensures.count)
    (λ d l. c.order-order.ensures.covers d (omega (arith, l, c.order-order.ensures.count)))
    c.loop-device.invariant.0
    (λ i l. c.loop-device.invariant.1 i (omega (arith, l, c.loop-device-test.false)))
