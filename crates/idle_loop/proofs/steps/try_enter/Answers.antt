-- Proof by hand of `try_enter`: what it returns, by the lemmas of `Stepping`.
use Rattle.std.proofs.Common.{refl}
use Rattle.idle_loop.proofs.Stepping.{gains_one}
use Rattle.idle_loop.proofs.steps.try_enter.Goals as goal

pub returns-clause-gains : goal.returns-clause-gains
returns-clause-gains g c = gains_one c.args.gate_log.now.sizes.wakers c.args.gate_log.now c.try_enter.new.self _ refl c.try_enter.ensures.journal c.try_enter.ensures.sizes
