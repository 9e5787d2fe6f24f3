-- Proof that `meeting` meets what `map_vec` requires.
use Rattle.turn_lock.proofs.LastPasses.{one_of_all_alone}
use Rattle.thread_trials.proofs.lock_tests.meeting.Goals as goal

pub map_vec-requires-after_bounds : goal.map_vec-requires-after_bounds
map_vec-requires-after_bounds g c κs within = λ i x low e. one_of_all_alone c.args.locks.now.own _ 2 c.args.passes.items i x c.args.locks.now.seated c.requires.object c.requires.passes low e
