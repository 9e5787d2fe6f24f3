-- Proof that `SourceHistory::step` keeps the invariant of its type.
use Rattle.wakeup_source.proofs.Tallied.{tallied_step}
use Rattle.wakeup_source.proofs.source_history.SourceHistory.step.Goals as goal

pub invariant_of-self : goal.invariant_of-self
invariant_of-self c =
    rw (c.put.ensures, c.step.ensures, c.step_of.ensures)
    (tallied_step c.self.inside.id c.args.by c.args.step c.args.before _ c.self.inside.tally c.self.inside.entries.past c.self.invariant (let h = c.requires.time in rw (← c.self.view_is) at h))
