-- Proof that `meeting` meets what `map_vec` requires.
use Rattle.event_word.proofs.Seating.{new_at}
use Rattle.thread_trials.proofs.word_overlap_tests.meeting.Goals as goal

pub map_vec-requires-after_bounds : goal.map_vec-requires-after_bounds
map_vec-requires-after_bounds g c κs inside = λ i x low e. new_at c.args.look.now.token _ c.args.seats.items i x c.requires.look c.requires.seats low e
