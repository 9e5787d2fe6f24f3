-- No device is prepared, and each waits for all below it.
use Rattle.std.proofs.Common.{◌∙◌, length, replicate, sym, ap}
use Rattle.sleep_model.specs.declared.progress.PhaseState.TheVariants as state
use Rattle.async_board.proofs.Stood.{fresh_walk}
use Rattle.async_board.proofs.walk.Walk.restart.Goals as goal

pub returns-clause-kept : goal.returns-clause-kept
returns-clause-kept c =
    let count = c.order.ensures.count in
    fresh_walk c.args.layout.now _ (length c.order.result.now) (ap length c.order.ensures.order) count
    (c.settle.ensures.states ∙ ap (λ n. replicate n state.Unprepared) (sym count)) c.first_cursors-self.ensures c.settle.ensures.below
    (c.settle.ensures.above ∙ ap (λ n. replicate n 0) (sym count))
