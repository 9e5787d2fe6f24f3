-- The order has each device once.
use Rattle.sleep_model.proofs.Ordering.{order_by_different}
use Rattle.async_board.proofs.board.Board.wired.Goals as goal

pub indices_of-requires-clause-different : goal.indices_of-requires-clause-different
indices_of-requires-clause-different c = rw c.order.ensures.order (order_by_different c.args.links.parents c.args.links.links)
