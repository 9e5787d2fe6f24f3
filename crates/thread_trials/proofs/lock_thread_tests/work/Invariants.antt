-- The invariant of the loop of `work`.
use Rattle.std.proofs.Common.{◌≡◌}
use Rattle.turn_lock.specs.Passes.{IsPass, first_of, number_of}
use Rattle.thread_trials.proofs.lock_thread_tests.work.Given as goal

abbrev pub invariant-loop-i : goal.invariant-loop-i
invariant-loop-i g l = IsPass l.cells.shared.table_id (first_of l.fn.pass.token) l.worker.pass.token × (number_of l.worker.pass.token ≡ number_of l.fn.pass.token)
