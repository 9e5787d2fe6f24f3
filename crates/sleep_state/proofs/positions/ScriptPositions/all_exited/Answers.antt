-- Proof that `ScriptPositions::all_exited` meets its contract.
use Rattle.std.proofs.Common.{◌∙◌, List, ap}
use Rattle.sleep_model.specs.declared.progress.ScriptPosition.{ScriptPosition}
use Rattle.sleep_model.specs.Positions.{all_exited}
use Rattle.sleep_state.proofs.Sleeping.{none_left}
use Rattle.sleep_state.proofs.positions.ScriptPositions.all_exited.Goals as goal

pub returns : goal.returns
returns c = none_left c.self.inside.positions.items c.self.inside.left c.self.invariant.left_is ∙ ap (λ (xs : List ScriptPosition). all_exited xs) c.self.view_is
