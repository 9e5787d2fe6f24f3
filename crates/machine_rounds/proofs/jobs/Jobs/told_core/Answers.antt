-- Proof that `Jobs::told_core` keeps the invariant of its type, and that it meets what `more_owing` requires.
use Rattle.std.proofs.Common.{◌≡◌, [], sym, subst}
use Rattle.sleep_script.specs.Jobs.{after_turn}
use Rattle.machine_rounds.specs.JobsOf.{JobsState, job_at, HasJob}
use Rattle.machine_rounds.proofs.Owing.{more_fits, turn_counted}
use Rattle.machine_rounds.proofs.jobs.Jobs.told_core.Goals as goal

pub more_owing-self-inside-requires : goal.more_owing-self-inside-requires
more_owing-self-inside-requires c =
    let j = c.self.inside in
    more_fits j.actors j.owing c.self.invariant.owing_is c.self.invariant.few_scripts c.self.invariant.few_devices

pub invariant_of-self : goal.invariant_of-self
invariant_of-self c =
    let j = c.self.inside in
    let has : HasJob j.actors c.args.who = subst (λ (s : JobsState). HasJob s c.args.who) (sym c.self.view_is) c.requires.job in
    let made : (job_at j.actors c.args.who).pending ≡ [] = subst (λ (s : JobsState). (job_at s c.args.who).pending ≡ []) (sym c.self.view_is) c.requires.made in
    turn_counted j c.args.who (after_turn c.args.stamp c.args.kind c.args.attempt (job_at j.actors c.args.who)) c.hear-owes.new.self c.hear-owes.result c.more_owing-self-inside.result has made c.self.invariant
    c.hear-owes.ensures.jobs c.hear-owes.ensures.owes c.more_owing-self-inside.ensures
