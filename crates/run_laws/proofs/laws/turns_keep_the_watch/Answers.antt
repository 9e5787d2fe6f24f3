-- Proof that `turns_keep_the_watch` meets its contract.
use Rattle.run_laws.proofs.laws.turns_keep_the_watch.Goals as goal
use Rattle.run_laws.proofs.Seated.{watch_keeps}

pub returns : goal.returns
returns c = watch_keeps
