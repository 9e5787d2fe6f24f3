-- Proof that the loop of `highest_of` keeps its invariant.
use Rattle.std.proofs.Common.{◌∙◌, ap, sym}
use Rattle.sleep_model.specs.declared.word.Stamp.{Stamp}
use Rattle.sleep_script.specs.Jobs.{later}
use Rattle.run_world.specs.Acts.{known_by}
use Rattle.machine_rounds.proofs.Numbered.{highest_more}
use Rattle.machine_rounds.proofs.tasks.highest_of.Goals as goal

pub loop-task-preserved : goal.loop-task-preserved
loop-task-preserved c =
    c.later-highest.ensures ∙ (ap (λ (s : Stamp). later s c.loop-task.highest) c.floor.ensures ∙ (ap (later (known_by c.task-item.result)) c.loop-task.invariant
    ∙ sym (highest_more c.args.floor c.args.tasks.now c.loop-task.task-index c.task-item.result c.loop-task-test.true c.task-item.is)))
