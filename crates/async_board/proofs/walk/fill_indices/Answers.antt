-- Each device of the order is at one index.
use Rattle.std.proofs.Common.{◌<◌, ◌∙◌, length, get_or, arith, length-set}
use Rattle.async_board.proofs.Counting.{among_at}
use Rattle.async_board.proofs.Indices.{places_more, placed_all}
use Rattle.async_board.proofs.walk.fill_indices.Goals as goal

pub bounds-indices-device : goal.bounds-indices-device
bounds-indices-device c =
    let within : get_or c.args.order.now c.loop-place.place 0 < length c.args.order.now = c.requires.within _ (among_at c.args.order.now c.loop-place.place c.loop-place-test.true) in
    omega (arith, within, c.loop-place.invariant.0)

pub loop-place-preserved : goal.loop-place-preserved
loop-place-preserved c =
    let order = c.args.order.now in
    let indices = c.loop-place.indices in
    let within : get_or order c.loop-place.place 0 < length order = c.requires.within _ (among_at order c.loop-place.place c.loop-place-test.true) in (
      length-set indices (get_or order c.loop-place.place 0) c.loop-place.place ∙ c.loop-place.invariant.0,
      places_more order indices c.loop-place.place c.requires.different c.loop-place-test.true (omega (arith, within, c.loop-place.invariant.0)) c.loop-place.invariant.1,
    )

pub returns : goal.returns
returns c = placed_all c.args.order.now c.loop-place.indices c.requires.covers c.loop-place.invariant.0 (λ i l. c.loop-place.invariant.1 i (omega (arith, c.loop-place-test.false)))
