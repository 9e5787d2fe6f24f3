-- Proof that `Core::stage` meets its contract.
use Rattle.std.proofs.Common.{◌∙◌, ap}
use Rattle.sleep_state.specs.Paths.{PathState}
use Rattle.sleep_core.proofs.FittingPhases.{fits_if}
use Rattle.sleep_state.specs.JournalRooms.{entries}
use Rattle.sleep_core.proofs.state.Core.stage.Goals as goal

pub returns-clause-fits : goal.returns-clause-fits
returns-clause-fits c = fits_if (entries c.self.inside.history.past) c.stage.result (c.stage.ensures ∙ ap (λ (p : PathState). p.stage) c.attempt.ensures)
