-- Proof that `RunInBurst::run_tasks` meets its contract, and that it meets what `make_burst` requires.
use Rattle.std.proofs.Common.{arith}
use Rattle.machine_rounds.proofs.RunInBurst.{during_few, during_ready, during_some, during_timely, during_turns, grown_of, is_back_of}
use Rattle.machine_rounds.proofs.bursts.RunInBurst.run_tasks.Goals as goal

pub make_burst-requires-clause-ready : goal.make_burst-requires-clause-ready
make_burst-requires-clause-ready g c = λ κs h. during_ready _ _ _ _ _ _ c.requires.during

pub make_burst-requires-clause-timely : goal.make_burst-requires-clause-timely
make_burst-requires-clause-timely g c = λ κs h. during_timely _ _ _ _ _ _ c.requires.during

pub make_burst-requires-clause-turns : goal.make_burst-requires-clause-turns
make_burst-requires-clause-turns g c = λ κs h. during_turns _ _ _ _ _ _ c.requires.during

pub make_burst-requires-clause-some : goal.make_burst-requires-clause-some
make_burst-requires-clause-some g c = λ κs h. (omega (arith, c.requires.workers), during_some _ _ _ _ _ _ c.requires.during)

pub make_burst-requires-clause-few : goal.make_burst-requires-clause-few
make_burst-requires-clause-few g c = λ κs h. during_few _ _ _ _ _ _ c.requires.during

pub returns-clause-grown : goal.returns-clause-grown
returns-clause-grown g c = grown_of _ _ _ _ _ _ c.requires.during c.make_burst.result c.make_burst.ensures.burst c.make_burst.ensures.ready c.make_burst.ensures.kept

pub returns-clause-back : goal.returns-clause-back
returns-clause-back g c = is_back_of _ _ _ _ _ _ c.requires.during c.make_burst.result c.make_burst.ensures.burst c.make_burst.ensures.ready c.make_burst.ensures.kept
