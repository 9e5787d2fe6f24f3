-- The invariant of the loop of `objects`.
use Rattle.std.proofs.Common.{◌≡◌, vec_len}
use Rattle.thread_trials.proofs.lock_tests.objects.Given as goal

abbrev pub invariant-loop : goal.invariant-loop
invariant-loop l = vec_len l.values ≡ l.counter
