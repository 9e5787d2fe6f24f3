-- Proof that `advance` meets what `advance` requires.
use Rattle.std.proofs.Common.{arith}
use Rattle.wake_locks.proofs.Timely.{before_later}
use Rattle.thread_trials.proofs.named_lock_tests.advance.Goals as goal

pub advance-requires : goal.advance-requires
advance-requires g c =
    let before = before_later 0 c.args.to c.args.locks.now (omega arith) c.requires.timely.before in
    (omega arith, (before, omega (arith, c.requires.small)))
