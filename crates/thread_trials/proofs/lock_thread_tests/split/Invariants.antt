-- The invariant of the loop of `split`.
use Rattle.std.proofs.Common.{◌≡◌, ◌≤◌, ◌+◌, map, vec_len, vec_capacity}
use Rattle.thread_trials.specs.declared.list_tests.PassHolder.{PassHolder}
use Rattle.thread_trials.proofs.lock_thread_tests.split.Given as goal

abbrev pub invariant-loop-worker : goal.invariant-loop-worker
invariant-loop-worker l =
    (l.passes.items ≡ map (λ (w : PassHolder). w.pass) l.yielded)
    × (vec_len l.passes + l.worker-iterator.rest.len ≤ vec_capacity l.passes)
    × (vec_len l.lists + l.worker-iterator.rest.len ≤ vec_capacity l.lists)
