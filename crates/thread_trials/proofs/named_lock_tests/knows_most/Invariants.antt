-- The invariant of the loop of `knows_most`.
use Rattle.wake_locks.specs.Locks.{ExpiriesAreDue}
use Rattle.thread_trials.proofs.named_lock_tests.knows_most.Given as goal

abbrev pub invariant-loop-number : goal.invariant-loop-number
invariant-loop-number g l = ExpiriesAreDue 0 l.locks
