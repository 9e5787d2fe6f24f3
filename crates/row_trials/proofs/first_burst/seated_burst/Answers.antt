-- Proof by hand of `seated_burst`: sources that were never called are timely, by the lemma of `Firsts`.
use Rattle.sleep_model.specs.Numbers.{time_of}
use Rattle.sleep_state.specs.JournalRooms.{entries}
use Rattle.row_trials.proofs.Firsts.{uncalled_timely}
use Rattle.row_trials.proofs.first_burst.seated_burst.Goals as goal

pub did_at-did-requires-clause-timely : goal.did_at-did-requires-clause-timely
did_at-did-requires-clause-timely g c κs within = uncalled_timely (time_of (entries c.new-core.result.core.past)) c.in-Ok.sources.items c.in-Ok.ensures.sources
