-- If the count is 0, none is found.
use Rattle.std.proofs.Common.{◌≡◌, ◌∙◌, ◌==◌, List, ℕ, None, sym, ap, subst, length, get_or}
use Rattle.sleep_model.specs.declared.progress.PhaseState.{PhaseState}
use Rattle.sleep_model.specs.PhaseStates.{state_at}
use Rattle.sleep_model.specs.Walk.{first_where}
use Rattle.async_board.specs.Sides.{beside, is_open, open_counts}
use Rattle.async_board.proofs.Searched.{none_counted}
use Rattle.async_board.proofs.board.Board.waits.Goals as goal

pub returns-then-is_none : goal.returns-then-is_none
returns-then-is_none c =
    let b = c.args.self.now in
    let w = c.walk-walk.result.now in
    let at = c.args.side in
    let row = beside at b.parents b.links in
    sym (subst (λ (ss : List PhaseState). first_where (λ e. is_open at (state_at ss e)) (row c.args.device) ≡ None) c.walk-walk.ensures.states
    (none_counted (length b.parents) (λ e. is_open at (state_at w.states.items e)) row (open_counts at w) c.args.device (c.walk-walk.ensures.counts at)
    (ap (λ (xs : List ℕ). get_or xs c.args.device 1 == 0) (sym c.open.ensures) ∙ (sym c.is_none.ensures ∙ c.if-is_none.true))))
