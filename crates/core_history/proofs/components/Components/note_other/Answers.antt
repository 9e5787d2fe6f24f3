-- Proof that `Components::note_other` meets its contract.
use Rattle.std.proofs.Common.{◌∙◌, ap}
use Rattle.sleep_model.specs.Word.{position}
use Rattle.autosleep_loop.specs.Autosleeps.{autosleep_after}
use Rattle.sleep_state.specs.DeviceStates.{devices_after}
use Rattle.sleep_state.specs.Paths.{path_after}
use Rattle.sleep_state.specs.TaskStates.{tasks_after}
use Rattle.platform_steps.specs.PlatformState.{steps_after}
use Rattle.syscore_ops.specs.SyscoreStates.{syscore_after}
use Rattle.task_freezer.specs.Freezers.{freezer_after}
use Rattle.wakeup_guard.specs.Guarded.{guarded_after}
use Rattle.core_history.specs.Histories.{guard_of, moved_board}
use Rattle.core_history.proofs.Boarded.{board_moves}
use Rattle.core_history.proofs.Counted.{guarded_24}
use Rattle.core_history.proofs.Freezing.{freezer_moves}
use Rattle.core_history.proofs.components.Components.note_other.Goals as goal

pub returns-clause-ok : goal.returns-clause-ok
returns-clause-ok c = λ m past settled i.
    let e = c.args.entry in
    record {
      guard = c.note.ensures ∙ (ap (guarded_after 24 e.kind e.now) i.guard ∙ guarded_24 e.kind e.now (guard_of past));
      path = c.note-2.ensures ∙ (ap (λ p. path_after e.kind e.actor p e.time c.args.self.now.path) c.pos.ensures ∙ ap (path_after e.kind e.actor (position e.now) e.time) i.path);
      devices = c.note-3.ensures ∙ ap (devices_after e.kind e.actor) i.devices;
      board = c.in_ok-move_links.ensures.ok ∙ (ap (moved_board e.kind) i.board ∙ board_moves m past e settled);
      tasks = c.note-4.ensures ∙ ap (tasks_after e.actor e.kind) i.tasks;
      freezer = c.note-5.ensures ∙ (ap (freezer_after e.actor e.kind) i.freezer ∙ freezer_moves m e past);
      autosleep = c.note-6.ensures ∙ ap (autosleep_after e.kind e.actor) i.autosleep;
      platform = c.note-7.ensures ∙ ap (steps_after e.kind) i.platform;
      syscore = c.note-8.ensures ∙ ap (syscore_after e.kind) i.syscore;
    }
