-- Proof by hand of `begin`: what it returns, by the lemmas of `Stepping`.
use Rattle.std.proofs.Common.{refl}
use Rattle.idle_loop.proofs.Stepping.{gains_one}
use Rattle.idle_loop.proofs.steps.begin.Goals as goal

pub returns-clause-gains : goal.returns-clause-gains
returns-clause-gains g c = gains_one c.args.gate_log.now.sizes.wakers c.args.gate_log.now c.begin.new.self _ refl c.begin.ensures.journal c.begin.ensures.sizes
