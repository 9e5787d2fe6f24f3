-- Only the links right below the supplier have changed.
use Rattle.std.proofs.Common.{◌∙◌, List, ℕ, sym, ap, subst}
use Rattle.sleep_model.specs.Order.{is_among, with_state}
use Rattle.sleep_model.proofs.Changing.{same_supplier, same_consumer, order_preserved}
use Rattle.device_links.specs.Linked.{Linked}
use Rattle.async_board.specs.Walks.{IsLayout, AreIndices}
use Rattle.async_board.proofs.Rested.{rested_set}
use Rattle.async_board.proofs.board.Board.set_link.Goals as goal

pub restart-requires : goal.restart-requires
restart-requires c = record {
  suspend = rested_set c.self.inside.layout c.self.inside.pairs.suspend c.self.invariant.walks.suspend (λ d k. ap (λ xs. is_among xs d) (sym c.order-devices.ensures.order) ∙ c.order-devices.ensures.covers d k)
      c.args.supplier c.args.consumer c.args.active _ c.in-Ok.ensures.ok;
  late = rested_set c.self.inside.layout c.self.inside.pairs.late c.self.invariant.walks.late (λ d k. ap (λ xs. is_among xs d) (sym c.order-devices.ensures.order) ∙ c.order-devices.ensures.covers d k)
      c.args.supplier c.args.consumer c.args.active _ c.in-Ok.ensures.ok;
  noirq = rested_set c.self.inside.layout c.self.inside.pairs.noirq c.self.invariant.walks.noirq (λ d k. ap (λ xs. is_among xs d) (sym c.order-devices.ensures.order) ∙ c.order-devices.ensures.covers d k)
      c.args.supplier c.args.consumer c.args.active _ c.in-Ok.ensures.ok;
}

pub invariant_of-self : goal.invariant_of-self
invariant_of-self c =
    let s = c.args.supplier in
    let d = c.args.consumer in
    let layout = c.self.inside.layout in
    record {
      closed_over = subst (λ (k : Linked). IsLayout (record { links = k; indices = layout.indices; asynchronous = layout.asynchronous })) (sym c.in-Ok.ensures.ok)
          (subst (λ (xs : List ℕ). AreIndices xs layout.indices.items)
          (sym (order_preserved (with_state s d c.args.active) (same_supplier s d c.args.active) (same_consumer s d c.args.active) layout.links.parents layout.links.links)) c.self.invariant.closed_over);
      walks = c.restart.ensures.kept;
    }
