-- Proof that `calls_keep_their_seat` meets its contract.
use Rattle.run_laws.proofs.laws.calls_keep_their_seat.Goals as goal
use Rattle.run_laws.proofs.Seated.{seat_keeps}

pub returns : goal.returns
returns c = seat_keeps
