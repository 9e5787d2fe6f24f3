-- The rows and the states are those of the links.
use Rattle.std.proofs.Common.{◌∙◌, List, ℕ, sym, ap, subst}
use Rattle.sleep_model.specs.Links.{IsOrder}
use Rattle.sleep_model.specs.Order.{active_of, is_among, dependents, superiors}
use Rattle.sleep_model.proofs.Changing.{active_dependents, fewer_order}
use Rattle.sleep_model.specs.PhaseStates.{is_not_down}
use Rattle.async_board.proofs.Waiting.{first_different}
use Rattle.async_board.proofs.Layouts.{below_few, below_moved, below_same}
use Rattle.async_board.proofs.moves.move_below.Goals as goal

pub shift-requires-clause-apart : goal.shift-requires-clause-apart
shift-requires-clause-apart c = rw c.above-above.ensures (first_different (superiors c.args.links.now.parents (active_of c.args.links.now.links) c.args.device))

pub shift-requires-clause-few : goal.shift-requires-clause-few
shift-requires-clause-few c w i x l m =
    below_few c.args.links.now.parents c.args.links.now.links c.args.states.now c.args.device c.args.after c.args.counts.now.items c.requires.size c.requires.within
    (fewer_order (dependents c.args.links.now.parents c.args.links.now.links) (dependents c.args.links.now.parents (active_of c.args.links.now.links)) (active_dependents c.args.links.now.parents c.args.links.now.links) _
    (subst (λ (xs : List ℕ). IsOrder (dependents c.args.links.now.parents c.args.links.now.links) xs) c.order-order.ensures.order c.order-order.ensures.ranked))
    (λ y k. ap (λ xs. is_among xs y) (sym c.order-order.ensures.order) ∙ c.order-order.ensures.covers y k)
    (λ y k. c.order-order.ensures.within y (ap (λ xs. is_among xs y) c.order-order.ensures.order ∙ k))
    c.requires.known
    (ap is_not_down (sym c.requires.before) ∙ (sym c.is_not_down-was.ensures ∙ w)) (sym c.is_not_down-is.ensures ∙ i) x l (ap (λ xs. is_among xs x) (sym c.above-above.ensures) ∙ m)

pub returns-then-was-is : goal.returns-then-was-is
returns-then-was-is c =
    below_moved c.args.links.now.parents c.args.links.now.links c.args.states.now c.args.device c.args.after c.args.counts.now.items c.requires.size c.requires.within c.requires.known
    c.above-above.result.now c.is_not_down-was.result c.is_not_down-is.result c.shift.new.counts.items c.above-above.ensures (c.is_not_down-was.ensures ∙ ap is_not_down c.requires.before) c.is_not_down-is.ensures c.shift.ensures

pub returns-else-was-is : goal.returns-else-was-is
returns-else-was-is c =
    below_same c.args.links.now.parents c.args.links.now.links c.args.states.now c.args.device c.args.after c.args.counts.now.items c.requires.size c.requires.within c.requires.known
    c.is_not_down-was.result c.is_not_down-is.result (c.is_not_down-was.ensures ∙ ap is_not_down c.requires.before) c.is_not_down-is.ensures c.if-was-is.false
