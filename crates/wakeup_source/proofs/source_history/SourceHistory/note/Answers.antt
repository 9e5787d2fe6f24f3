-- Proof that `SourceHistory::note` keeps the invariant of its type.
use Rattle.wakeup_source.proofs.Tallied.{tallied_note}
use Rattle.wakeup_source.proofs.source_history.SourceHistory.note.Goals as goal

pub invariant_of-self : goal.invariant_of-self
invariant_of-self c =
    rw (c.put.ensures, c.note.ensures, c.note_of.ensures)
    (tallied_note c.self.inside.id c.args.by c.args.call c.args.seen _ c.self.inside.tally c.self.inside.entries.past c.self.invariant (let h = c.requires.time in rw (← c.self.view_is) at h))
