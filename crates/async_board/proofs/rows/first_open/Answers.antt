-- The row has each device once.
use Rattle.std.proofs.Common.{◌∙◌}
use Rattle.sleep_model.specs.PhaseStates.{state_at}
use Rattle.async_board.specs.Sides.{beside, is_open}
use Rattle.async_board.proofs.Searched.{found_once}
use Rattle.async_board.proofs.rows.first_open.Goals as goal

pub returns : goal.returns
returns c =
    c.find_open.ensures
    ∙ found_once (λ e. is_open c.args.side (state_at c.args.states.now e)) (beside c.args.side c.args.links.now.parents c.args.links.now.links c.args.device) c.row_beside-row.result.now c.row_beside-row.ensures
