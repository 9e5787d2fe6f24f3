-- Only the links right below the supplier have changed.
use Rattle.std.proofs.Common.{◌≡◌, ◌∙◌, List, ℕ, sym, ap, subst}
use Rattle.std.specs.Bool.{OnTrue}
use Rattle.sleep_model.specs.Order.{is_among}
use Rattle.sleep_model.proofs.Ordering.{order_by_different}
use Rattle.async_board.specs.Walks.{AreIndices, order_of}
use Rattle.async_board.proofs.Indices.{placed_still}
use Rattle.async_board.proofs.Rested.{rested_added}
use Rattle.async_board.proofs.board.Board.add_link.Goals as goal

pub refill_indices-requires-clause-different : goal.refill_indices-requires-clause-different
refill_indices-requires-clause-different c = rw c.order.ensures.order (order_by_different c.add_noting_order.new.self.parents c.add_noting_order.new.self.links)

pub refill_indices-requires-clause-kept : goal.refill_indices-requires-clause-kept
refill_indices-requires-clause-kept c =
    let old = c.self.inside.layout in
    let stays = c.in-Ok.stays in
    subst (λ (indices : List ℕ). OnTrue stays (AreIndices c.order.result.now indices)) (sym c.deref_mut.ensures.value)
    (placed_still stays c.order.result.now (order_of old) old.indices.items (subst (λ (o : List ℕ). OnTrue stays (o ≡ order_of old)) (sym c.order.ensures.order) c.in-Ok.ensures.order) c.self.invariant.closed_over)

pub restart-requires : goal.restart-requires
restart-requires c = record {
  suspend = rested_added c.self.inside.layout c.self.inside.pairs.suspend c.self.invariant.walks.suspend (λ d k. ap (λ xs. is_among xs d) (sym c.order-devices.ensures.order) ∙ c.order-devices.ensures.covers d k)
      c.args.supplier c.args.consumer _ c.in-Ok.ensures.ok;
  late = rested_added c.self.inside.layout c.self.inside.pairs.late c.self.invariant.walks.late (λ d k. ap (λ xs. is_among xs d) (sym c.order-devices.ensures.order) ∙ c.order-devices.ensures.covers d k)
      c.args.supplier c.args.consumer _ c.in-Ok.ensures.ok;
  noirq = rested_added c.self.inside.layout c.self.inside.pairs.noirq c.self.invariant.walks.noirq (λ d k. ap (λ xs. is_among xs d) (sym c.order-devices.ensures.order) ∙ c.order-devices.ensures.covers d k)
      c.args.supplier c.args.consumer _ c.in-Ok.ensures.ok;
}
