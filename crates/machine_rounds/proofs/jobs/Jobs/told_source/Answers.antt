-- Proof that `Jobs::told_source` keeps the invariant of its type, and that it meets what `left_owing` requires.
use Rattle.std.proofs.Common.{◌<◌, length, sym, subst}
use Rattle.sleep_script.specs.Jobs.{after_call}
use Rattle.machine_rounds.specs.JobsOf.{JobsState, job_at, HasJob}
use Rattle.machine_rounds.proofs.Owing.{some_owing, call_counted}
use Rattle.machine_rounds.proofs.jobs.Jobs.told_source.Goals as goal

pub left_owing-self-inside-requires : goal.left_owing-self-inside-requires
left_owing-self-inside-requires c =
    let j = c.self.inside in
    let has : HasJob j.actors c.args.who = subst (λ (s : JobsState). HasJob s c.args.who) (sym c.self.view_is) c.requires.job in
    let left : 0 < length (job_at j.actors c.args.who).pending = subst (λ (s : JobsState). 0 < length (job_at s c.args.who).pending) (sym c.self.view_is) c.requires.left in
    some_owing j.actors c.args.who j.owing has left c.self.invariant.owing_is

pub invariant_of-self : goal.invariant_of-self
invariant_of-self c =
    let j = c.self.inside in
    let has : HasJob j.actors c.args.who = subst (λ (s : JobsState). HasJob s c.args.who) (sym c.self.view_is) c.requires.job in
    let left : 0 < length (job_at j.actors c.args.who).pending = subst (λ (s : JobsState). 0 < length (job_at s c.args.who).pending) (sym c.self.view_is) c.requires.left in
    call_counted j c.args.who (after_call c.args.stamp (job_at j.actors c.args.who)) c.hear-owes.new.self c.hear-owes.result c.left_owing-self-inside.result has left c.self.invariant
    c.hear-owes.ensures.jobs c.hear-owes.ensures.owes c.left_owing-self-inside.ensures
