-- Proof that `SourceHistory::look` leaves the event in progress as it was.
use Rattle.wakeup_source.specs.SourceStates.{unstamped_source}
use Rattle.wakeup_source.proofs.Called.{since_note}
use Rattle.wakeup_source.proofs.source_history.SourceHistory.look.Goals as goal

pub returns-clause-since : goal.returns-clause-since
returns-clause-since g c =
    let old = c.args.self.now.source in
    rw (c.note.ensures) (since_note c.args.call old.id c.args.by.actor c.args.by.now c.look_from-seen.result (unstamped_source old.past))
