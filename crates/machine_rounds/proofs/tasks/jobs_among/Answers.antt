-- Proof that the loop of `jobs_among` keeps its invariant, and that there is room.
use Rattle.std.proofs.Common.{◌∙◌, ◌++◌, List, [], ◌∷◌, ap, sym, arith}
use Rattle.sleep_script.specs.Jobs.{JobState}
use Rattle.run_world.specs.declared.task.Task.{Task}
use Rattle.machine_rounds.specs.TasksOf.{jobs_in}
use Rattle.machine_rounds.proofs.Numbered.{jobs_more, timer_more}
use Rattle.machine_rounds.proofs.tasks.jobs_among.Goals as goal

pub push_reserved-requires : goal.push_reserved-requires
push_reserved-requires c = omega (arith, c.loop-task.invariant.1, c.in-Some.ensures.steps.1)

pub loop-task-preserved-in-Acts : goal.loop-task-preserved-in-Acts
loop-task-preserved-in-Acts c =
    let is = c.loop-task.invariant in (
      c.push_reserved.ensures.items ∙ (ap (λ (l : List JobState). l ++ c.in-Acts.job ∷ []) is.0
          ∙ (sym (jobs_more c.loop-task.yielded c.in-Acts.job) ∙ ap (λ (t : Task). jobs_in (c.loop-task.yielded ++ t ∷ [])) (sym c.in-Acts.is))),
      omega (arith, is.1, c.in-Some.ensures.steps.1, c.push_reserved.ensures.len, c.push_reserved.ensures.capacity),
    )

pub loop-task-preserved : goal.loop-task-preserved
loop-task-preserved c =
    let is = c.loop-task.invariant in (
      is.0 ∙ sym (timer_more c.loop-task.yielded c.in-Some.task c.in_default.not-Acts),
      omega (arith, is.1, c.in-Some.ensures.steps.1),
    )
