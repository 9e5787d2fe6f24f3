-- Proof that `Components::note_task` meets its contract.
use Rattle.std.proofs.Common.{◌∙◌, ap}
use Rattle.autosleep_loop.specs.Autosleeps.{autosleep_after}
use Rattle.sleep_state.specs.TaskStates.{tasks_after}
use Rattle.core_history.proofs.Parting.{stays}
use Rattle.core_history.proofs.components.Components.note_task.Goals as goal

pub returns : goal.returns
returns c = λ m past time i.
    let k = c.args.kind in
    let same = stays m past time c.args.now c.args.actor k c.requires.task in
    record {
      guard = i.guard ∙ same.guard;
      path = i.path ∙ same.path;
      devices = i.devices ∙ same.devices;
      board = i.board ∙ same.board;
      tasks = c.note.ensures ∙ ap (tasks_after c.args.actor k) i.tasks;
      freezer = i.freezer ∙ same.freezer;
      autosleep = c.move_work.ensures ∙ ap (autosleep_after k c.args.actor) i.autosleep;
      platform = i.platform ∙ same.platform;
      syscore = i.syscore ∙ same.syscore;
    }
