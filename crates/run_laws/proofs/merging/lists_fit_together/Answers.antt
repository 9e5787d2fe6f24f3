-- Proof that `lists_fit_together` meets its contract.
use Rattle.run_laws.proofs.merging.lists_fit_together.Goals as goal
use Rattle.run_laws.proofs.Fits.{fits_together}

pub returns : goal.returns
returns c = fits_together
