-- The rows and the states are those of the links.
use Rattle.std.proofs.Common.{◌∙◌, sym, ap}
use Rattle.sleep_model.specs.Order.{active_of, is_among, dependents}
use Rattle.sleep_model.specs.PhaseStates.{is_not_up}
use Rattle.async_board.proofs.Waiting.{first_different}
use Rattle.async_board.proofs.Layouts.{above_few, above_moved, above_same}
use Rattle.async_board.proofs.moves.move_above.Goals as goal

pub shift-requires-clause-apart : goal.shift-requires-clause-apart
shift-requires-clause-apart c = rw c.below-below.ensures (first_different (dependents c.args.links.now.parents (active_of c.args.links.now.links) c.args.device))

pub shift-requires-clause-few : goal.shift-requires-clause-few
shift-requires-clause-few c w i x l m =
    above_few c.args.links.now.parents c.args.links.now.links c.args.states.now c.args.device c.args.after c.args.counts.now.items c.requires.size c.requires.within c.requires.known
    (ap is_not_up (sym c.requires.before) ∙ (sym c.is_not_up-was.ensures ∙ w)) (sym c.is_not_up-is.ensures ∙ i) x l (ap (λ xs. is_among xs x) (sym c.below-below.ensures) ∙ m)

pub returns-then-was-is : goal.returns-then-was-is
returns-then-was-is c =
    above_moved c.args.links.now.parents c.args.links.now.links c.args.states.now c.args.device c.args.after c.args.counts.now.items c.requires.size c.requires.within c.requires.known
    c.below-below.result.now c.is_not_up-was.result c.is_not_up-is.result c.shift.new.counts.items c.below-below.ensures (c.is_not_up-was.ensures ∙ ap is_not_up c.requires.before) c.is_not_up-is.ensures c.shift.ensures

pub returns-else-was-is : goal.returns-else-was-is
returns-else-was-is c =
    above_same c.args.links.now.parents c.args.links.now.links c.args.states.now c.args.device c.args.after c.args.counts.now.items c.requires.size c.requires.within c.requires.known
    c.is_not_up-was.result c.is_not_up-is.result (c.is_not_up-was.ensures ∙ ap is_not_up c.requires.before) c.is_not_up-is.ensures c.if-was-is.false
