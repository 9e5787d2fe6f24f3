-- The invariant of the loop of `histories_of`.
use Rattle.std.proofs.Common.{◌≤◌, ◌+◌, vec_len, vec_capacity}
use Rattle.thread_trials.proofs.merge_thread_tests.histories_of.Given as goal

abbrev pub invariant-loop-history : goal.invariant-loop-history
invariant-loop-history l = vec_len l.histories + l.history-iterator.rest.len ≤ vec_capacity l.histories
