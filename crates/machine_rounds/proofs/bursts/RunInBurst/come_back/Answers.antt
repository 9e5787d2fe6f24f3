-- Proof that `RunInBurst::come_back` meets what `of_tasks` and `joined` require.
use Rattle.std.proofs.Common.{◌<◌, ◌∙◌, ℕ, length, sym, ap, subst}
use Rattle.machine_rounds.specs.TasksOf.{AreJobsOf, highest, jobs_in}
use Rattle.machine_rounds.proofs.RunInBurst.{back_few, back_jobs, back_running, back_there}
use Rattle.machine_rounds.proofs.bursts.RunInBurst.come_back.Goals as goal

pub of_tasks-requires-clause-few : goal.of_tasks-requires-clause-few
of_tasks-requires-clause-few c = back_few _ _ _ _ _ _ c.requires

pub of_tasks-requires-clause-there : goal.of_tasks-requires-clause-there
of_tasks-requires-clause-there c =
    subst (λ (n : ℕ). n < length (jobs_in c.args.burst.contents.tasks.items)) (sym c.len.ensures) (back_there _ _ _ _ _ _ c.requires)

pub joined-requires : goal.joined-requires
joined-requires c =
    let are = subst (λ (n : ℕ). AreJobsOf (jobs_in c.args.burst.contents.tasks.items) n c.in-Ok.jobs) c.len.ensures c.in-Ok.ensures in
    let top = c.highest_of-floor.ensures ∙ ap (highest c.args.self.floor) c.deref.ensures.value in
    record {
      all_jobs = back_jobs _ _ _ _ _ _ c.requires c.in-Ok.jobs are;
      machine_is = c.requires.machine_is;
      running = back_running _ _ _ _ _ _ c.requires c.in-Ok.jobs are c.highest_of-floor.result top;
      table_is = c.requires.table_is;
      seats = c.requires.seats;
    }
