-- Proof that `Run::burst` meets what `take_apart` requires.
use Rattle.std.proofs.Common.{arith}
use Rattle.machine_rounds.proofs.run.Run.burst.Goals as goal

pub take_apart-requires : goal.take_apart-requires
take_apart-requires g c = omega (arith, c.entries_are_few.ensures)
