-- The invariant of the loop of `gathered`.
use Rattle.std.proofs.Common.{◌≡◌, ◌≤◌, ◌+◌, map, vec_len, vec_capacity}
use Rattle.event_word.specs.Lists.{tokens}
use Rattle.thread_trials.specs.declared.word_thread_tests.Done.{Done}
use Rattle.thread_trials.proofs.word_thread_tests.gathered.Given as goal

abbrev pub invariant-loop-one : goal.invariant-loop-one
invariant-loop-one l =
    (tokens l.seats.items ≡ map (λ (d : Done). d.seat.token) l.yielded)
    × (vec_len l.seats + l.one-iterator.rest.len ≤ vec_capacity l.seats)
