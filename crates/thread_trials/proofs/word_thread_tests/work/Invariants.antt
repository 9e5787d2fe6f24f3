-- The invariant of the loop of `work`.
use Rattle.std.proofs.Common.{◌≡◌, length}
use Rattle.event_word.specs.Steps.{is_active}
use Rattle.event_word.specs.Seats.{number_of, made_of}
use Rattle.thread_trials.proofs.word_thread_tests.work.Given as goal

abbrev pub invariant-loop-i : goal.invariant-loop-i
invariant-loop-i l = (is_active (made_of l.seat.token) ≡ l.active) × (length (made_of l.seat.token) ≡ l.i)
    × (l.seat.token.table_id ≡ l.fn.seat.token.table_id) × (number_of l.seat.token ≡ number_of l.fn.seat.token)
