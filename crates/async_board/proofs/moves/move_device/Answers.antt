-- The device that moves may be looked for or not.
use Rattle.std.proofs.Common.{◌≡◌, ◌∙◌, ◌<◌, List, ℕ, Bool, ap, arith, length, get_or, sym, subst, set}
use Rattle.std.proofs.lemmas.List.{get_or_default}
use Rattle.sleep_model.specs.declared.progress.PhaseState.{PhaseState}
use Rattle.async_board.specs.declared.cursors.Moved.{Moved}
use Rattle.async_board.specs.Cursors.{AreCursorsBut}
use Rattle.async_board.specs.Walks.{order_of}
use Rattle.sleep_model.specs.Walk.{is_so}
use Rattle.async_board.proofs.Stood.{cursors_but}
use Rattle.async_board.proofs.moves.move_device.Goals as goal

pub move_cursors-requires-clause-but : goal.move_cursors-requires-clause-but
move_cursors-requires-clause-but c =
    let l = c.args.layout.now in
    let w = c.args.walk.now in
    let moved : Moved = record { place = c.index.result.now; before = c.args.before; after = c.args.after; asynchronous = c.is_so.result } in
    let within : c.args.device < length (order_of l) = omega (arith, ap length c.order-order.ensures.order) in
    let place : c.index.result.now ≡ get_or l.indices.items c.args.device 0 = c.index.ensures ∙ get_or_default l.indices.items c.args.device c.index.result.now 0 (omega (arith, within, c.requires.closed_over.size)) in
    subst (λ (bs : List Bool). AreCursorsBut moved bs c.as_slice.result.now c.order-order.result.now w.cursors) (sym c.as_slice-2.ensures.value)
    (subst (λ (ss : List PhaseState). AreCursorsBut moved l.asynchronous.items ss c.order-order.result.now w.cursors) (sym c.as_slice.ensures.value)
    (subst (λ (ds : List ℕ). AreCursorsBut moved l.asynchronous.items (set w.states.items c.args.device c.args.after) ds w.cursors) (sym c.order-order.ensures.order)
    (cursors_but l.asynchronous.items w.states.items (order_of l) l.indices.items c.args.device c.args.after c.requires.closed_over moved place c.requires.before (c.is_so.ensures ∙ ap (λ bs. is_so bs c.args.device) c.deref.ensures.value) within w.cursors c.requires.kept.cursors)))
