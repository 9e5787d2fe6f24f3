-- Proof that `seats_cover_the_table` meets its contract.
use Rattle.run_laws.proofs.laws.seats_cover_the_table.Goals as goal
use Rattle.run_laws.proofs.Seated.{seats_cover}

pub returns : goal.returns
returns c = seats_cover
