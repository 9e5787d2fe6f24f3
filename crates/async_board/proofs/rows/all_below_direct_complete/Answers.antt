-- The row has each device once.
use Rattle.std.proofs.Common.{◌∙◌, ap}
use Rattle.std.specs.List.{list_all}
use Rattle.sleep_model.specs.Order.{active_of, dependents}
use Rattle.sleep_model.specs.PhaseStates.{is_direct_complete, state_at}
use Rattle.async_board.proofs.Searched.{all_once}
use Rattle.async_board.proofs.rows.all_below_direct_complete.Goals as goal

pub returns : goal.returns
returns c =
    c.are_direct_complete.ensures
    ∙ (ap (list_all (λ e. is_direct_complete (state_at c.args.states.now e))) c.below-row.ensures
    ∙ all_once (λ e. is_direct_complete (state_at c.args.states.now e)) (dependents c.args.links.now.parents (active_of c.args.links.now.links) c.args.device))
