-- No device is prepared, and each waits for all below it.
use Rattle.std.proofs.Common.{length, ap}
use Rattle.async_board.proofs.Stood.{fresh_walk}
use Rattle.async_board.proofs.walk.Walk.new.Goals as goal

pub returns-clause-kept : goal.returns-clause-kept
returns-clause-kept c =
    fresh_walk c.args.layout.now _ (length c.order-count.result.now) (ap length c.order-count.ensures.order) c.order-count.ensures.count
    (c.in_ok-vec.ensures.items_if_clones_equal (λ y e. e)) c.first_cursors.ensures c.in_ok-counts_below.ensures (c.in_ok-vec-2.ensures.items_if_clones_equal (λ y e. e))
